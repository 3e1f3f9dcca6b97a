-- What a table keeps among sources, one after the other.
use Rattle.std.proofs.Common.{◌≡◌, ℕ, Bool, true, false, not, cond, ◌&&◌, ◌||◌, List, [], ◌∷◌, refl, sym, ap, ◌∙◌}
use Rattle.std.specs.List.{filter, list_any}
use Rattle.lgr_text.specs.Records as lgr
use Rattle.lgr_text.specs.Repertoire.{may_be}
use Rattle.lgr_table.specs.declared.untyped.Wanted.{Wanted}
use Rattle.lgr_table.specs.inner.Wanted.{is_wanted, keeps_with}

-- what is found among those that pass a test
any-filter : {X : Type 0} (p q : X → Bool) (xs : List X) → list_any p (filter q xs) ≡ list_any (λ x. q x && p x) xs
any-filter p q [] = refl
any-filter p q (x ∷ xs) = by (q x) refl (any-filter p q xs)
  where
    by : (b : Bool) → q x ≡ b → list_any p (filter q xs) ≡ list_any (λ x. q x && p x) xs
        → list_any p (cond (q x) (x ∷ filter q xs) (filter q xs)) ≡ (q x && p x || list_any (λ x. q x && p x) xs)
    by true is rest =
        ap (λ b. list_any p (cond b (x ∷ filter q xs) (filter q xs))) is ∙ ap (λ b. p x || b) rest
        ∙ sym (ap (λ b. b && p x || list_any (λ x. q x && p x) xs) is)
    by false is rest =
        ap (λ b. list_any p (cond b (x ∷ filter q xs) (filter q xs))) is ∙ rest
        ∙ sym (ap (λ b. b && p x || list_any (λ x. q x && p x) xs) is)

-- the table keeps the variant with this source
abbrev pub keeps_one : (ℕ → Bool) → Wanted → lgr.Variant → List ℕ → Bool
keeps_one may wanted v s = may_be may s && (may_be may v.points && is_wanted wanted s v)

pub keeps-each : (may : ℕ → Bool) (wanted : Wanted) (v : lgr.Variant) (sources : List (List ℕ))
    → keeps_with may wanted v sources ≡ list_any (keeps_one may wanted v) sources
keeps-each may wanted v sources = any-filter (λ s. may_be may v.points && is_wanted wanted s v) (may_be may) sources

or-none : (b : Bool) → (b || false) ≡ b
or-none true = refl
or-none false = refl

pub keeps-alone : (may : ℕ → Bool) (wanted : Wanted) (v : lgr.Variant) (s : List ℕ) → keeps_with may wanted v (s ∷ []) ≡ keeps_one may wanted v s
keeps-alone may wanted v s = keeps-each may wanted v (s ∷ []) ∙ or-none (keeps_one may wanted v s)

-- one of three that isn't so
pub first-fails : (a b c : Bool) → a ≡ false → false ≡ (a && (b && c))
first-fails a b c is = sym (ap (λ x. x && (b && c)) is)

pub last-fails : (a b c : Bool) → c ≡ false → false ≡ (a && (b && c))
last-fails true true c is = sym is
last-fails true false c is = refl
last-fails false b c is = refl

pub only-second : (a b c : Bool) → a ≡ true → c ≡ true → b ≡ (a && (b && c))
only-second a true c first last = sym (ap (λ x. x && (true && c)) first ∙ last)
only-second a false c first last = sym (ap (λ x. x && (false && c)) first)

-- ---- whether there is to be a type, by whether the file has types, and whether a table keeps a variant without one that is
-- its source, one without a type, and one with a type

off : (h u : Bool) → (h && (u && false)) ≡ false
off true true = refl
off true false = refl
off false u = refl

and-true : (b : Bool) → (b && true) ≡ b
and-true true = refl
and-true false = refl

pub need-none : (h x : Bool) → h ≡ false → false ≡ (h && x)
need-none h x a = sym (ap (λ y. y && x) a)

pub need-staying : (h s x : Bool) → h ≡ true → s ≡ true → true ≡ (h && (s || x))
need-staying h s x a b = sym (ap (λ y. y && (s || x)) a ∙ ap (λ y. y || x) b)

pub need-typed : (h s u t : Bool) → s ≡ false → t ≡ true → false ≡ (h && (s || (u && not t)))
need-typed h s u t b d = sym (ap (λ y. h && (y || (u && not t))) b ∙ ap (λ y. h && (u && not y)) d ∙ off h u)

pub need-untyped : (h s u t : Bool) → h ≡ true → s ≡ false → t ≡ false → u ≡ (h && (s || (u && not t)))
need-untyped h s u t a b d =
    sym (ap (λ y. y && (s || (u && not t))) a ∙ ap (λ y. y || (u && not t)) b ∙ ap (λ y. u && not y) d ∙ and-true u)
