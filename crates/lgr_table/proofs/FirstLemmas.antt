-- Tests of the elements of a list, one after the other.
use Rattle.std.proofs.Common.{◌≡◌, ℕ, ◌+◌, ◌<◌, ◌≤◌, Bool, true, false, ◌||◌, List, [], ◌∷◌, ◌++◌, map, length, get_or, take, drop, refl, sym, ap, ◌∙◌}
use Rattle.std.specs.List.{list_any}
use Rattle.std.proofs.lemmas.Bool.{or_from, or_left, or_right}
use Rattle.std.proofs.lemmas.List.{drop_more, map-append, take-append-drop, take_all, take_more}
use Rattle.std.proofs.lemmas.List.Folds.{list_any-append}

-- one more, of which it isn't true
pub any-more : {X Y : Type 0} (p : Y → Bool) (f : X → Y) (xs : List X) (i : ℕ) (x : X) → i < length xs → x ≡ get_or xs i x → list_any p (map f (take i xs)) ≡ false
    → p (f x) ≡ false → list_any p (map f (take (i + 1) xs)) ≡ false
any-more p f xs i x less is before here =
    ap (λ l. list_any p (map f l)) (take_more xs i x less ∙ ap (λ y. take i xs ++ y ∷ []) (sym is))
    ∙ ap (list_any p) (map-append f (take i xs) (x ∷ [])) ∙ list_any-append p (map f (take i xs)) (f x ∷ [])
    ∙ or_from (list_any p (map f (take i xs))) (p (f x) || false) before (or_from (p (f x)) false here refl)

-- the first of which it is
pub any-found : {X Y : Type 0} (p : Y → Bool) (f : X → Y) (xs : List X) (i : ℕ) (x : X) → i < length xs → x ≡ get_or xs i x → p (f x) ≡ true → true ≡ list_any p (map f xs)
any-found p f xs i x less is here =
    let rest = drop (i + 1) xs in
    let all : xs ≡ take i xs ++ x ∷ rest =
    sym (take-append-drop i xs) ∙ ap (λ l. take i xs ++ l) (drop_more xs i x less ∙ ap (λ y. y ∷ rest) (sym is)) in
    sym (ap (λ l. list_any p (map f l)) all ∙ ap (list_any p) (map-append f (take i xs) (x ∷ rest)) ∙ list_any-append p (map f (take i xs)) (f x ∷ map f rest)
    ∙ or_right (list_any p (map f (take i xs))) (p (f x) || list_any p (map f rest)) (or_left (p (f x)) (list_any p (map f rest)) here))

-- none of them
pub any-none : {X Y : Type 0} (p : Y → Bool) (f : X → Y) (xs : List X) (i : ℕ) → length xs ≤ i → list_any p (map f (take i xs)) ≡ false → false ≡ list_any p (map f xs)
any-none p f xs i all before = sym (ap (λ l. list_any p (map f l)) (sym (take_all i xs all)) ∙ before)
