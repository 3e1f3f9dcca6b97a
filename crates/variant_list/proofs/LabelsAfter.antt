-- Rising labels after a label: first those that share its first code points, then the others.
use Rattle.std.proofs.Common.{◌≡◌, ℕ, ◌<◌, Bool, true, false, not, cond, List, [], ◌∷◌, ◌++◌, length, refl, sym, ap, ◌∙◌, arith}
use Rattle.std.specs.List.{AllByRecursion, filter}
use Rattle.std.proofs.lemmas.Bool.{false_from_ne_true}
use Rattle.variant_list.specs.Labels.{IsBelow, IsRising}
use Rattle.variant_list.specs.Beginnings.{shares}
use Rattle.variant_list.specs.inner.Skips.{outside}
use Rattle.variant_list.proofs.ListLemmas.{AllByRecursion-map, filter-all, filter-none, filter-passes}
use Rattle.variant_list.proofs.BeginningLemmas.{shares-between, shares-within}
use Rattle.variant_list.proofs.DeadPrefixLemmas.{AllShare, BeginsApart}

abbrev pub inside : ℕ → List ℕ → List (List ℕ) → List (List ℕ)
inside n u = filter (shares n u)

-- after one that does not share, none does
none_share : (n : ℕ) (u w : List ℕ) (ws : List (List ℕ)) → IsBelow u w → shares n u w ≡ false → AllByRecursion (IsBelow w) ws → AllByRecursion (λ v. shares n u v ≡ false) ws
none_share n u w ws below other =
    AllByRecursion-map (IsBelow w) (λ v. shares n u v ≡ false) ws (λ v above. false_from_ne_true _ (λ h. let clash : true ≡ false = sym (shares-between n u w v below above h) ∙ other in cc))

all_outside : (n : ℕ) (u : List ℕ) (ws : List (List ℕ)) → AllByRecursion (λ v. shares n u v ≡ false) ws → outside n u ws ≡ ws
all_outside n u ws h = filter-all (λ w. not (shares n u w)) ws (AllByRecursion-map (λ v. shares n u v ≡ false) (λ v. not (shares n u v) ≡ true) ws (λ v e. ap not e) h)

pub split-shared : (n : ℕ) (u : List ℕ) (ws : List (List ℕ)) → AllByRecursion (IsBelow u) ws → IsRising ws → ws ≡ inside n u ws ++ outside n u ws
split-shared n u [] above rises = refl
split-shared n u (w ∷ ws) above rises = by_test (shares n u w) refl (split-shared n u ws above.1 rises.1)
  where
    by_test : (b : Bool) → shares n u w ≡ b → ws ≡ inside n u ws ++ outside n u ws → (w ∷ ws) ≡ cond b (w ∷ inside n u ws) (inside n u ws) ++ cond (not b) (w ∷ outside n u ws) (outside n u ws)
    by_test true e rest = ap (λ vs. w ∷ vs) rest
    by_test false e rest =
        let none = none_share n u w ws above.0 e rises.0 in
        sym (ap (λ vs. vs ++ w ∷ outside n u ws) (filter-none (shares n u) ws none) ∙ ap (λ vs. w ∷ vs) (all_outside n u ws none))

-- no label has more code points in common with v than v has
pub outside-all : (n : ℕ) (v : List ℕ) (ws : List (List ℕ)) → length v < n → outside n v ws ≡ ws
outside-all n v ws short = all_outside n v ws (each ws)
  where
    each : (ws : List (List ℕ)) → AllByRecursion (λ w. shares n v w ≡ false) ws
    each [] = tt
    each (w ∷ ws) = (false_from_ne_true _ (λ h. let within = shares-within n v w h in absurd (omega (arith, within, short))), each ws)

pub inside-shares : (n : ℕ) (u : List ℕ) (ws : List (List ℕ)) → AllShare n u (inside n u ws)
inside-shares n u ws = filter-passes (shares n u) ws

pub outside-apart : (n : ℕ) (u : List ℕ) (ws : List (List ℕ)) → BeginsApart n u (outside n u ws)
outside-apart n u ws = apart (outside n u ws) (filter-passes (λ w. not (shares n u w)) ws)
  where
    unshared : (b : Bool) → not b ≡ true → b ≡ false
    unshared true h = sym h
    unshared false h = refl

    apart : (vs : List (List ℕ)) → AllByRecursion (λ w. not (shares n u w) ≡ true) vs → BeginsApart n u vs
    apart [] h = tt
    apart (v ∷ vs) h = unshared (shares n u v) h.0
