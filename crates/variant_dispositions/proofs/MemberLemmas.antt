-- Members of lists that are made of others, and tests of all members.
use Rattle.std.proofs.Common.{◌≡◌, ◌↔◌, inl, inr, ℕ, zero, suc, ◌+◌, ◌<◌, ◌≤◌, Bool, true, false, List, [], ◌∷◌, map, refl, sym, ap, ◌∙◌, subst, arith}
use Rattle.std.specs.Prelude.{◌&&◌, ◌||◌}
use Rattle.std.specs.List.{Contains, flat_map, list_all, list_any, range_with_len}
use Rattle.std.proofs.lemmas.Bool.{and_parts, cases_order, or_cases}
use Rattle.std.proofs.lemmas.List.Elements.{Contains-append_cases, Contains-append_left, Contains-append_right}
use Rattle.reading_kinds.proofs.ListMembers.{Contains-cases, Contains-head, Contains-later, Contains-none}

-- tests that are true of the same
pub bool_same : (a b : Bool) → (a ≡ true → b ≡ true) → (b ≡ true → a ≡ true) → a ≡ b
bool_same true b f g = sym (f refl)
bool_same false true f g = g refl
bool_same false false f g = refl

pub Contains-map : {X Y : Type 0} (f : X → Y) (xs : List X) (y : Y) → Contains (map f xs) y ↔ ((x : X) × Contains xs x × (y ≡ f x))
Contains-map f [] y = (λ c. absurd (Contains-none y c), λ g. absurd (Contains-none g.0 g.1))
Contains-map f (x ∷ xs) y = (
  λ c. elim (Contains-cases (f x) (map f xs) y c) [ inl e ↦ (x, Contains-head x xs, sym e) | inr t ↦ let g = (Contains-map f xs y).0 t in (g.0, Contains-later x xs g.0 g.1, g.2) ],
  λ g. elim (Contains-cases x xs g.0 g.1) [ inl e ↦ subst (Contains (f x ∷ map f xs)) (ap f e ∙ sym g.2) (Contains-head (f x) (map f xs)) | inr t ↦ Contains-later (f x) (map f xs) y ((Contains-map f xs y).1 (g.0, t, g.2)) ],
)

pub Contains-flat_map : {X Y : Type 0} (f : X → List Y) (xs : List X) (y : Y) → Contains (flat_map f xs) y ↔ ((x : X) × Contains xs x × Contains (f x) y)
Contains-flat_map f [] y = (λ c. absurd (Contains-none y c), λ g. absurd (Contains-none g.0 g.1))
Contains-flat_map f (x ∷ xs) y = (
  λ c. elim (Contains-append_cases (f x) (flat_map f xs) y c) [ inl h ↦ (x, Contains-head x xs, h) | inr t ↦ let g = (Contains-flat_map f xs y).0 t in (g.0, Contains-later x xs g.0 g.1, g.2) ],
  λ g. elim (Contains-cases x xs g.0 g.1) [ inl e ↦ Contains-append_left (f x) (flat_map f xs) y (subst (λ z. Contains (f z) y) (sym e) g.2) | inr t ↦ Contains-append_right (f x) (flat_map f xs) y ((Contains-flat_map f xs y).1 (g.0, t, g.2)) ],
)

pub Contains-range : (a n k : ℕ) → Contains (range_with_len a n) k ↔ ((a ≤ k) × (k < a + n))
Contains-range a zero k = (λ c. absurd (Contains-none k c), λ h. absurd (omega (arith, h.0, h.1)))
Contains-range a (suc n) k =
    let rest = Contains-range (a + 1) n k in (
      λ c. elim (Contains-cases a (range_with_len (a + 1) n) k c) [
        | inl same ↦ (omega (arith, same), omega (arith, same))
        | inr later ↦ let h = rest.0 later in (omega (arith, h.0), omega (arith, h.1))
      ],
      λ h. elim (cases_order a k) [
        | inl same ↦ subst (Contains (a ∷ range_with_len (a + 1) n)) same (Contains-head a (range_with_len (a + 1) n))
        | inr o ↦ elim o [
          | inl less ↦ Contains-later a (range_with_len (a + 1) n) k (rest.1 (omega (arith, less), omega (arith, h.1)))
          | inr more ↦ absurd (omega (arith, more, h.0))
        ]
      ],
    )

-- ---- tests of some members, and of all

pub any-told : {X : Type 0} (p : X → Bool) (xs : List X) → (list_any p xs ≡ true) ↔ ((x : X) × Contains xs x × (p x ≡ true))
any-told p [] = (λ e. absurd (let clash : false ≡ true = e in cc), λ h. absurd (Contains-none h.0 h.1))
any-told {X} p (x ∷ xs) =
    let rest = any-told p xs in (
      λ e. elim (or_cases (p x) (list_any p xs) e) [
        | inl here ↦ (x, Contains-head x xs, here)
        | inr later ↦ let h = rest.0 later in (h.0, Contains-later x xs h.0 h.1, h.2)
      ],
      λ h. elim (Contains-cases x xs h.0 h.1) [
        | inl same ↦ ap (λ (b : Bool). b || list_any p xs) (ap p same ∙ h.2)
        | inr later ↦ right (p x) (rest.1 (h.0, later, h.2))
      ],
    )
  where
    right : (b : Bool) → list_any p xs ≡ true → (b || list_any p xs) ≡ true
    right true e = refl
    right false e = e

pub all-told : {X : Type 0} (p : X → Bool) (xs : List X) → (list_all p xs ≡ true) ↔ ((x : X) → Contains xs x → p x ≡ true)
all-told p [] = (λ e x h. absurd (Contains-none x h), λ h. refl)
all-told {X} p (x ∷ xs) =
    let rest = all-told p xs in (
      λ e y h. (let parts = and_parts (p x) (list_all p xs) e in elim (Contains-cases x xs y h) [
        | inl same ↦ ap p (sym same) ∙ parts.0
        | inr later ↦ rest.0 parts.1 y later
      ]),
      λ h. ap (λ (b : Bool). b && list_all p xs) (h x (Contains-head x xs)) ∙ rest.1 (λ y l. h y (Contains-later x xs y l)),
    )
