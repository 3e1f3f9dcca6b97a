-- Sources and variants of a form, one after another.
use Rattle.std.proofs.Common.{◌≡◌, ℕ, zero, suc, ◌+◌, ◌<◌, ◌≤◌, Bool, true, List, [], ◌∷◌, ◌++◌, length, map, take, drop, ◌-◌, get_or, sym, ap, subst, ◌∙◌, arith}
use Rattle.std.specs.Prelude.{slice_index, slice_index_or, Option, Some}
use Rattle.std.specs.List.{AllByRecursion, list_all}
use Rattle.std.proofs.lemmas.Bool.{and_parts}
use Rattle.std.proofs.lemmas.List.{map-append, take_more, take_rest, take_all}
use Rattle.ruleset_text.specs.declared.entry_form.Mapped as held
use Rattle.ruleset_text.specs.Definitions.{Definitions}
use Rattle.ruleset_text.specs.Entries.{Mapped}
use Rattle.ruleset_text.specs.EntryForms.{mapped}
use Rattle.ruleset_text.specs.EntryText.{IsForm, IsMapped}
use Rattle.variant_table.specs.Forms.{source_mark, variant_mark, variant_by, sequences_of}
use Rattle.variant_table.proofs.NumberLemmas.{MayBeTyped}

-- ---- their sequences

pub one_taken : (d : Definitions) (mark : ℕ) (xs : List held.Mapped) (i : ℕ) (x : held.Mapped) → i < length xs → x ≡ get_or xs i x
    → map (variant_by mark d) (map mapped (take (i + 1) xs)) ≡ map (variant_by mark d) (map mapped (take i xs)) ++ variant_by mark d (mapped x) ∷ []
one_taken d mark xs i x l e =
    ap (λ t. map (variant_by mark d) (map mapped t)) (take_more xs i x l ∙ ap (λ y. take i xs ++ y ∷ []) (sym e))
    ∙ ap (map (variant_by mark d)) (map-append mapped (take i xs) (x ∷ [])) ∙ map-append (variant_by mark d) (map mapped (take i xs)) (mapped x ∷ [])

-- what is known of each is known of one
pub one_of_all : (P : Mapped → Type 0) (xs : List held.Mapped) (i : ℕ) (x : held.Mapped) → i < length xs → x ≡ get_or xs i x → AllByRecursion P (map mapped xs) → P (mapped x)
one_of_all P [] i x l e h = absurd (omega (arith, l))
one_of_all P (y ∷ xs) zero x l e h = subst (λ z. P (mapped z)) (sym e) h.0
one_of_all P (y ∷ xs) (suc i) x l e h = one_of_all P xs i x (omega (arith, l)) e h.1

-- ---- the source, and the variants after it

-- what stands after the first
abbrev pub after_first : List held.Mapped → List held.Mapped
after_first ms = take (length ms - 1) (drop 1 ms)

pub after_is : (s : held.Mapped) (vs : List held.Mapped) → after_first (s ∷ vs) ≡ vs
after_is s vs = take_rest (s ∷ vs) 1

pub first_of_all : (P : Mapped → Type 0) (ms : List held.Mapped) (x : held.Mapped) → 1 ≤ length ms → x ≡ get_or ms 0 x → AllByRecursion P (map mapped ms) → P (mapped x)
first_of_all P ms x l e h = one_of_all P ms 0 x (omega (arith, l)) e h

pub after_of_all : (P : Mapped → Type 0) (ms : List held.Mapped) (i : ℕ) (x : held.Mapped) → i < length (after_first ms) → x ≡ get_or (after_first ms) i x → AllByRecursion P (map mapped ms) → P (mapped x)
after_of_all P [] i x l e h = absurd (omega (arith, l))
after_of_all P (s ∷ vs) i x l e h =
    one_of_all P vs i x (subst (λ r. i < length r) (after_is s vs) l) (subst (λ r. x ≡ get_or r i x) (after_is s vs) e) h.1

pub first_taken : (d : Definitions) (ms : List held.Mapped) (x : held.Mapped) → 1 ≤ length ms → x ≡ get_or ms 0 x → variant_by source_mark d (mapped x) ∷ [] ≡ sequences_of d (map mapped (take 1 ms))
first_taken d [] x l e = absurd (omega (arith, l))
first_taken d (s ∷ []) x l e = ap (λ y. variant_by source_mark d (mapped y) ∷ []) e
first_taken d (s ∷ v ∷ vs) x l e = ap (λ y. variant_by source_mark d (mapped y) ∷ []) e

pub more_taken : (d : Definitions) (ms : List held.Mapped) (i : ℕ) (x : held.Mapped) → i < length (after_first ms) → x ≡ get_or (after_first ms) i x
    → sequences_of d (map mapped (take (suc (i + 1)) ms)) ≡ sequences_of d (map mapped (take (suc i) ms)) ++ variant_by variant_mark d (mapped x) ∷ []
more_taken d [] i x l e = absurd (omega (arith, l))
more_taken d (s ∷ vs) i x l e =
    ap (λ t. variant_by source_mark d (mapped s) ∷ t)
    (one_taken d variant_mark vs i x (subst (λ r. i < length r) (after_is s vs) l) (subst (λ r. x ≡ get_or r i x) (after_is s vs) e))

pub all_taken : (ms : List held.Mapped) (i : ℕ) → 1 ≤ length ms → length (after_first ms) ≤ i → take (suc i) ms ≡ ms
all_taken [] i l k = absurd (omega (arith, l))
all_taken (s ∷ vs) i l k = take_all (suc i) (s ∷ vs) (omega (arith, k, ap length (after_is s vs)))

-- what is marked has no type
pub all_typed : (ms : List Mapped) → AllByRecursion IsMapped ms → AllByRecursion MayBeTyped ms
all_typed [] h = tt
all_typed (m ∷ ms) h = (h.0.type_name, all_typed ms h.1)

-- what is tested of all is so of each
pub all_known : (test : Mapped → Bool) (ms : List Mapped) → list_all test ms ≡ true → AllByRecursion (λ m. test m ≡ true) ms
all_known test [] h = tt
all_known test (m ∷ ms) h = let p = and_parts (test m) (list_all test ms) h in (p.0, all_known test ms p.1)

-- ---- the source of a range

-- a range has one source, of one code point, which is not above the last
pub record IsRange (items : List held.Mapped) (x : held.Mapped) (first last : ℕ) : Type 0 where
  pub one : items ≡ x ∷ []
  pub first_is : slice_index x.points.items 0 ≡ first
  pub rises : first ≤ last

pub range_of : (items : List held.Mapped) (x : held.Mapped) (first last : ℕ) → IsForm (map mapped items) (Some last) → x ≡ slice_index_or items 0 x → first ≡ slice_index_or x.points.items 0 first → IsRange items x first last
range_of [] x first last h e f = absurd h
range_of (y ∷ z ∷ items) x first last h e f = absurd h
range_of (y ∷ []) x first last h e f =
    let point : y.points.items ≡ (h.2).0 ∷ [] = (h.2).1 in
    let same : x.points.items ≡ (h.2).0 ∷ [] = ap (λ m. m.points.items) e ∙ point in
    let is : first ≡ (h.2).0 = f ∙ ap (λ ps. slice_index_or ps 0 first) same in
    record {
      one = ap (λ m. m ∷ []) (sym e);
      first_is = ap (λ ps. slice_index ps 0) same ∙ sym is;
      rises = omega (arith, is, (h.2).2);
    }

pub some_form : (ms : List Mapped) (last : Option ℕ) → IsForm ms last → 0 < length ms
some_form [] last h = absurd h
some_form (m ∷ ms) last h = omega arith
