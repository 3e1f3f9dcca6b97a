-- Lists: their first, their last, their parts, and products that grow.
use Rattle.std.proofs.Common.{◌≡◌, ℕ, suc, ◌+◌, ◌*◌, ◌≤◌, Bool, true, false, cond, List, [], ◌∷◌, ◌++◌, length, Some, None, slice_get, refl, ap, ◌∙◌, subst, arith}
use Rattle.std.specs.List.{AllByRecursion, filter}
use Rattle.variant_list.specs.Labels.{IsRising}
use Rattle.variant_list.specs.Steps.{last_of}

pub mul-plus : (e x y : ℕ) → e * (x + y) ≡ e * x + e * y
mul-plus e x y = grind arith

-- the count after one more search, after several, and at the end of a call
pub looks-more : (a b start e x y : ℕ) → b ≤ a + 126 * e → a ≤ start + 126 * (e * x) → y ≡ x + 1 → b ≤ start + 126 * (e * y)
looks-more a b start e x y more so_far is = let product : e * y ≡ e * x + e = ap (λ n. e * n) is ∙ mul-plus e x 1 ∙ ap (λ n. e * x + n) (one e) in omega (arith, more, so_far, product)
  where
    one : (e : ℕ) → e * 1 ≡ e
    one e = omega arith

pub looks-sum : (a b e x y z : ℕ) → a ≤ 126 * (e * x) → b ≤ a + 126 * (e * y) → z ≡ x + y → b ≤ 126 * (e * z)
looks-sum a b e x y z so_far more is = let product : e * z ≡ e * x + e * y = ap (λ n. e * n) is ∙ mul-plus e x y in omega (arith, more, so_far, product)

pub product-le : (e x y : ℕ) → x ≤ y → e * x ≤ e * y
product-le e x y h = grind arith

-- ---- first and last

pub slice_get-none : {X : Type 0} (xs : List X) → None ≡ slice_get xs 0 → xs ≡ []
slice_get-none [] e = refl
slice_get-none (x ∷ xs) e = cc

pub slice_get-some : {X : Type 0} (xs : List X) (x : X) → Some x ≡ slice_get xs 0 → (ys : List X) × (xs ≡ x ∷ ys)
slice_get-some [] x e = cc
slice_get-some (y ∷ xs) x e = let same : y ≡ x = cc in (xs, ap (λ z. z ∷ xs) same)

pub slice_get-after : {X : Type 0} (xs : List X) (x : X) (ys : List X) → slice_get (xs ++ x ∷ ys) (length xs) ≡ Some x
slice_get-after [] x ys = refl
slice_get-after (y ∷ xs) x ys = slice_get-after xs x ys

pub last_of-push : (start : List ℕ) (vs : List (List ℕ)) (v : List ℕ) → last_of start (vs ++ v ∷ []) ≡ v
last_of-push start [] v = refl
last_of-push start (w ∷ vs) v = last_of-push w vs v

module _ {X : Type 0} where
  pub AllByRecursion-append : (P : X → Type 0) (xs ys : List X) → AllByRecursion P xs → AllByRecursion P ys → AllByRecursion P (xs ++ ys)
  AllByRecursion-append P [] ys h g = g
  AllByRecursion-append P (x ∷ xs) ys h g = (h.0, AllByRecursion-append P xs ys h.1 g)

  pub AllByRecursion-after : (P : X → Type 0) (xs ys : List X) → AllByRecursion P (xs ++ ys) → AllByRecursion P ys
  AllByRecursion-after P [] ys h = h
  AllByRecursion-after P (x ∷ xs) ys h = AllByRecursion-after P xs ys h.1

  pub AllByRecursion-map : (P Q : X → Type 0) (xs : List X) → ((x : X) → P x → Q x) → AllByRecursion P xs → AllByRecursion Q xs
  AllByRecursion-map P Q [] f h = tt
  AllByRecursion-map P Q (x ∷ xs) f h = (f x h.0, AllByRecursion-map P Q xs f h.1)

  -- ---- filters

  module _ (p : X → Bool) where
    pub filter-passes : (xs : List X) → AllByRecursion (λ x. p x ≡ true) (filter p xs)
    filter-passes [] = tt
    filter-passes (x ∷ xs) = by_test (p x) refl (filter-passes xs)
      where
        by_test : (b : Bool) → p x ≡ b → AllByRecursion (λ y. p y ≡ true) (filter p xs) → AllByRecursion (λ y. p y ≡ true) (cond b (x ∷ filter p xs) (filter p xs))
        by_test true e h = (e, h)
        by_test false e h = h

    pub filter-all : (xs : List X) → AllByRecursion (λ x. p x ≡ true) xs → filter p xs ≡ xs
    filter-all [] h = refl
    filter-all (x ∷ xs) h = ap (λ b. cond b (x ∷ filter p xs) (filter p xs)) h.0 ∙ ap (λ ys. x ∷ ys) (filter-all xs h.1)

    pub filter-none : (xs : List X) → AllByRecursion (λ x. p x ≡ false) xs → filter p xs ≡ []
    filter-none [] h = refl
    filter-none (x ∷ xs) h = ap (λ b. cond b (x ∷ filter p xs) (filter p xs)) h.0 ∙ filter-none xs h.1

    pub filter-shorter : (xs : List X) → length (filter p xs) ≤ length xs
    filter-shorter [] = omega arith
    filter-shorter (x ∷ xs) = by_test (p x) (filter-shorter xs)
      where
        by_test : (b : Bool) → length (filter p xs) ≤ length xs → length (cond b (x ∷ filter p xs) (filter p xs)) ≤ suc (length xs)
        by_test true h = omega (arith, h)
        by_test false h = omega (arith, h)

    pub filter-first : (xs : List X) (y : X) (ys : List X) → filter p xs ≡ y ∷ ys → p y ≡ true
    filter-first xs y ys e = (subst (AllByRecursion (λ x. p x ≡ true)) e (filter-passes xs)).0

-- ---- rising lists

pub IsRising-after : (vs ws : List (List ℕ)) → IsRising (vs ++ ws) → IsRising ws
IsRising-after [] ws h = h
IsRising-after (v ∷ vs) ws h = IsRising-after vs ws h.1
