-- Members of lists that are made of others, and tests of all members.
use Rattle.std.proofs.Common.{◌≡◌, Bool, true, false, cond, List, [], ◌∷◌, ◌++◌, map, refl, sym, ap, ◌∙◌, subst, inl, inr, ◌↔◌}
use Rattle.std.specs.Prelude.{IsTrue}
use Rattle.std.specs.List.{Contains, flat_map, filter, list_any, AllByRecursion}
use Rattle.std.proofs.lemmas.List.Elements.{Contains-append_left, Contains-append_right, Contains-append_cases}
use Rattle.variant_table.proofs.MemberLemmas.{Contains-head, Contains-later, Contains-none, Contains-cases}
use Rattle.label_patterns.proofs.TestLemmas.{or-one}

pub Contains-map : {X Y : Type 0} (f : X → Y) (xs : List X) (y : Y) → Contains (map f xs) y ↔ ((x : X) × Contains xs x × (y ≡ f x))
Contains-map f [] y = (λ c. absurd (Contains-none y c), λ g. absurd (Contains-none g.0 g.1))
Contains-map f (x ∷ xs) y = (
  λ c. elim (Contains-cases (f x) (map f xs) y c) [ inl e ↦ (x, Contains-head x xs, sym e) | inr t ↦ let g = (Contains-map f xs y).0 t in (g.0, Contains-later x xs g.0 g.1, g.2) ],
  λ g. elim (Contains-cases x xs g.0 g.1) [ inl e ↦ subst (Contains (f x ∷ map f xs)) (ap f e ∙ sym g.2) (Contains-head (f x) (map f xs)) | inr t ↦ Contains-later (f x) (map f xs) y ((Contains-map f xs y).1 (g.0, t, g.2)) ],
)

pub Contains-flat_map : {X Y : Type 0} (f : X → List Y) (xs : List X) (y : Y) → Contains (flat_map f xs) y ↔ ((x : X) × Contains xs x × Contains (f x) y)
Contains-flat_map f [] y = (λ c. absurd (Contains-none y c), λ g. absurd (Contains-none g.0 g.1))
Contains-flat_map f (x ∷ xs) y = (
  λ c. elim (Contains-append_cases (f x) (flat_map f xs) y c) [ inl h ↦ (x, Contains-head x xs, h) | inr t ↦ let g = (Contains-flat_map f xs y).0 t in (g.0, Contains-later x xs g.0 g.1, g.2) ],
  λ g. elim (Contains-cases x xs g.0 g.1) [ inl e ↦ Contains-append_left (f x) (flat_map f xs) y (subst (λ z. Contains (f z) y) (sym e) g.2) | inr t ↦ Contains-append_right (f x) (flat_map f xs) y ((Contains-flat_map f xs y).1 (g.0, t, g.2)) ],
)

pub Contains-filter : {X : Type 0} (p : X → Bool) (xs : List X) (y : X) → Contains (filter p xs) y ↔ (Contains xs y × IsTrue (p y))
Contains-filter p [] y = (λ c. absurd (Contains-none y c), λ g. absurd (Contains-none y g.0))
Contains-filter {X} p (x ∷ xs) y = by_test (p x) refl (Contains-filter p xs y)
  where
    by_test : (b : Bool) → p x ≡ b → Contains (filter p xs) y ↔ (Contains xs y × IsTrue (p y)) → Contains (cond b (x ∷ filter p xs) (filter p xs)) y ↔ (Contains (x ∷ xs) y × IsTrue (p y))
    by_test true is rest = (
      λ c. elim (Contains-cases x (filter p xs) y c) [
        | inl e ↦ (subst (Contains (x ∷ xs)) e (Contains-head x xs), subst (λ z. IsTrue (p z)) e is)
        | inr t ↦ (let g = rest.0 t in (Contains-later x xs y g.0, g.1))
      ],
      λ g. elim (Contains-cases x xs y g.0) [
        | inl e ↦ subst (Contains (x ∷ filter p xs)) e (Contains-head x (filter p xs))
        | inr t ↦ Contains-later x (filter p xs) y (rest.1 (t, g.1))
      ],
    )
    by_test false is rest = (
      λ c. (let g = rest.0 c in (Contains-later x xs y g.0, g.1)),
      λ g. elim (Contains-cases x xs y g.0) [
        | inl e ↦ absurd (let clash : true ≡ false = sym (subst (λ z. IsTrue (p z)) (sym e) g.1) ∙ is in cc)
        | inr t ↦ rest.1 (t, g.1)
      ],
    )

-- ---- tests

pub not-true : {P : Type 0} → false ≡ true → P
not-true h = absurd (let f : false ≡ true = h in cc)

pub any-one : {X : Type 0} (p : X → Bool) (xs : List X) → IsTrue (list_any p xs) ↔ ((x : X) × Contains xs x × IsTrue (p x))
any-one p [] = (λ h. not-true h, λ g. absurd (Contains-none g.0 g.1))
any-one p (x ∷ xs) =
    let either = or-one (p x) (list_any p xs) in
    let rest = any-one p xs in (
      λ h. elim (either.0 h) [ inl f ↦ (x, Contains-head x xs, f) | inr r ↦ (let g = rest.0 r in (g.0, Contains-later x xs g.0 g.1, g.2)) ],
      λ g. either.1 (elim (Contains-cases x xs g.0 g.1) [ inl e ↦ inl (subst (λ z. IsTrue (p z)) (sym e) g.2) | inr t ↦ inr (rest.1 (g.0, t, g.2)) ]),
    )

pub all-map : {X : Type 0} (P Q : X → Type 0) (xs : List X) → ((x : X) → P x → Q x) → AllByRecursion P xs → AllByRecursion Q xs
all-map P Q [] f h = tt
all-map P Q (x ∷ xs) f h = (f x h.0, all-map P Q xs f h.1)

pub all-members : {X : Type 0} (P : X → Type 0) (xs : List X) → ((x : X) → Contains xs x → P x) → AllByRecursion P xs
all-members P [] h = tt
all-members P (x ∷ xs) h = (h x (Contains-head x xs), all-members P xs (λ y c. h y (Contains-later x xs y c)))

pub all-push : {X : Type 0} (P : X → Type 0) (xs : List X) (x : X) → AllByRecursion P xs → P x → AllByRecursion P (xs ++ x ∷ [])
all-push P [] x all is = (is, tt)
all-push P (y ∷ xs) x all is = (all.0, all-push P xs x all.1 is)
