-- Tests of the members of a list.
use Rattle.std.proofs.Common.{◌≡◌, ◌⊎◌, ◌↔◌, ℕ, ◌||◌, Bool, true, false, List, refl, sym, inl, inr, subst}
use Rattle.std.specs.Prelude.{bytes_eq}
use Rattle.std.specs.List.{Contains}
use Rattle.std.proofs.lemmas.Slice.Eq.{bytes_eq-Decides}
use Rattle.variant_dispositions.proofs.MemberLemmas.{any-told}
use Rattle.idn2_answers.specs.Listings.{is_among}

pub among-found : (v : List ℕ) (vs : List (List ℕ)) → (is_among vs v ≡ true) ↔ Contains vs v
among-found v vs =
    let told = any-told (bytes_eq v) vs in (
      λ e. (let g = told.0 e in subst (Contains vs) (sym ((bytes_eq-Decides v g.0).0 g.2)) g.1),
      λ m. told.1 (v, m, (bytes_eq-Decides v v).1 refl),
    )

pub or-true : (x y : Bool) → (x || y) ≡ true → (x ≡ true) ⊎ (y ≡ true)
or-true true y e = inl refl
or-true false y e = inr e

pub true-or : (x y : Bool) → (x ≡ true) ⊎ (y ≡ true) → (x || y) ≡ true
true-or true y h = refl
true-or false y (inl e) = absurd (let bad : false ≡ true = e in cc)
true-or false y (inr e) = e
