-- Members of lists.
use Rattle.std.proofs.Common.{◌≡◌, ◌⊎◌, inl, inr, zero, suc, Bool, true, false, cond, List, [], ◌∷◌, Some, None, refl, sym, ap, ◌∙◌, arith}
use Rattle.std.specs.Prelude.{find}
use Rattle.std.specs.List.{Contains}
use Rattle.std.proofs.lemmas.List.Elements.{Contains-append_right, Contains-append_cases}

pub Contains-head : {X : Type 0} (x : X) (xs : List X) → Contains (x ∷ xs) x
Contains-head x xs = (0, omega arith, refl)

pub Contains-later : {X : Type 0} (x : X) (xs : List X) (y : X) → Contains xs y → Contains (x ∷ xs) y
Contains-later x xs y h = Contains-append_right (x ∷ []) xs y h

pub Contains-none : {X : Type 0} (y : X) → Contains [] y → ⊥
Contains-none y h = omega (arith, h.1)

pub Contains-one : {X : Type 0} (x y : X) → Contains (x ∷ []) y → x ≡ y
Contains-one x y (zero, l, e) = e
Contains-one x y (suc k, l, e) = absurd (omega (arith, l))

pub Contains-cases : {X : Type 0} (x : X) (xs : List X) (y : X) → Contains (x ∷ xs) y → (x ≡ y) ⊎ Contains xs y
Contains-cases x xs y h = elim (Contains-append_cases (x ∷ []) xs y h) [ inl g ↦ inl (Contains-one x y g) | inr g ↦ inr g ]

-- ---- the first that passes a test

found_step : {X : Type 0} (p : X → Bool) (y : X) (xs : List X) (x : X) (b : Bool) → p y ≡ b → cond b (Some y) (find p xs) ≡ Some x → (find p xs ≡ Some x → Contains xs x × (p x ≡ true)) → Contains (y ∷ xs) x × (p x ≡ true)
found_step p y xs x true e f rest = let same : y ≡ x = cc in (Contains-is same, ap p (sym same) ∙ e)
  where
    Contains-is : y ≡ x → Contains (y ∷ xs) x
    Contains-is s = (0, omega arith, s)
found_step p y xs x false e f rest = let r = rest f in (Contains-later y xs x r.0, r.1)

pub find_some : {X : Type 0} (p : X → Bool) (xs : List X) (x : X) → find p xs ≡ Some x → Contains xs x × (p x ≡ true)
find_some p [] x e = absurd cc
find_some p (y ∷ xs) x e = found_step p y xs x (p y) refl e (find_some p xs x)

none_step : {X : Type 0} (p : X → Bool) (y : X) (xs : List X) (x : X) (b : Bool) → p y ≡ b → cond b (Some y) (find p xs) ≡ None → Contains (y ∷ xs) x → (find p xs ≡ None → Contains xs x → p x ≡ false) → p x ≡ false
none_step p y xs x true e f h rest = absurd cc
none_step p y xs x false e f h rest = elim (Contains-cases y xs x h) [ inl s ↦ ap p (sym s) ∙ e | inr m ↦ rest f m ]

pub find_none : {X : Type 0} (p : X → Bool) (xs : List X) (x : X) → find p xs ≡ None → Contains xs x → p x ≡ false
find_none p [] x e h = absurd (Contains-none x h)
find_none p (y ∷ xs) x e h = none_step p y xs x (p y) refl e h (find_none p xs x)
