-- One element of a list, and what follows it; a fact about a failed call.
use Rattle.std.proofs.Common.{◌≡◌, ℕ, zero, suc, ◌+◌, ◌<◌, ◌≤◌, length, get_or, refl, arith, List, [], ◌∷◌, ◌++◌, take, drop, Some, sym, ap, ◌∙◌, add-one}
use Rattle.std.specs.Prelude.{slice_get, OnErr, Result, Ok, Err}

drop_suc : {X : Type 0} (xs : List X) (i : ℕ) (x : X) → slice_get xs i ≡ Some x → drop i xs ≡ x ∷ drop (suc i) xs
drop_suc [] i x e = absurd cc
drop_suc (y ∷ ys) zero x e = let same : y ≡ x = cc in ap (λ z. z ∷ ys) same
drop_suc (y ∷ ys) (suc i) x e = drop_suc ys i x e

pub drop_next : {X : Type 0} (xs : List X) (i : ℕ) (x : X) → slice_get xs i ≡ Some x → drop i xs ≡ x ∷ drop (i + 1) xs
drop_next xs i x e = drop_suc xs i x e ∙ ap (λ n. x ∷ drop n xs) (sym (add-one i))

-- the same for an item that a loop has at its place
pub drop_item : {X : Type 0} (xs : List X) (i : ℕ) (x : X) → i < length xs → x ≡ get_or xs i x → drop i xs ≡ x ∷ drop (i + 1) xs
drop_item [] i x l e = absurd (omega (arith, l))
drop_item (y ∷ ys) zero x l e = ap (λ z. z ∷ ys) (sym e)
drop_item (y ∷ ys) (suc i) x l e = drop_item ys i x (omega (arith, l)) e ∙ ap (λ n. x ∷ drop n (y ∷ ys)) (let same : suc (i + 1) ≡ suc i + 1 = omega arith in same)

pub drop_all : {X : Type 0} (xs : List X) (i : ℕ) → length xs ≤ i → drop i xs ≡ []
drop_all [] zero l = refl
drop_all [] (suc i) l = refl
drop_all (y ∷ ys) zero l = absurd (omega (arith, l))
drop_all (y ∷ ys) (suc i) l = drop_all ys i (omega (arith, l))

take_suc : {X : Type 0} (xs : List X) (i : ℕ) (x : X) → slice_get xs i ≡ Some x → take (suc i) xs ≡ take i xs ++ x ∷ []
take_suc [] i x e = absurd cc
take_suc (y ∷ ys) zero x e = let same : y ≡ x = cc in ap (λ z. z ∷ []) same
take_suc (y ∷ ys) (suc i) x e = ap (λ l. y ∷ l) (take_suc ys i x e)

pub take_next : {X : Type 0} (xs : List X) (i : ℕ) (x : X) → slice_get xs i ≡ Some x → take (i + 1) xs ≡ take i xs ++ x ∷ []
take_next xs i x e = ap (λ n. take n xs) (add-one i) ∙ take_suc xs i x e

pub on_err : {A E : Type 0} (r : Result A E) (P : Type 0) → P → OnErr r P
on_err (Ok x) P p = tt
on_err (Err e) P p = p
