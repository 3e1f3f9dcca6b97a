-- The shortest dead prefix of a label, as a listing asks for it.
use Rattle.std.proofs.Common.{◌≡◌, ℕ, zero, suc, ◌≤◌, Bool, true, false, List, take, Option, Some, None, MatchOption, refl, sym, ◌∙◌, arith}
use Rattle.idn_class.specs.declared.properties.Properties.{Properties}
use Rattle.idn_class.specs.DeadPrefixes.{hopeless, IsDeadPrefix, IsShortestDeadPrefix, HasNoDeadPrefix}
use Rattle.idn_class.proofs.DeadPrefixSteps.{hopeless-nil}
use Rattle.idn_class.proofs.DeadPrefixTests.{hopeless-gives, hopeless-from}
use Rattle.variant_list.specs.Beginnings.{shortest_hopeless}
use Rattle.variant_list.proofs.BeginningLemmas.{shortest_hopeless-at, shortest_hopeless-none}

module _ (properties : Properties) where
  pub clear : (w : List ℕ) → ¬ IsDeadPrefix properties w → hopeless properties w ≡ false
  clear w h = by_test (hopeless properties w) refl
    where
      by_test : (b : Bool) → hopeless properties w ≡ b → b ≡ false
      by_test true is = absurd (h (hopeless-gives properties w is))
      by_test false is = refl

  positive : (v : List ℕ) (n : ℕ) → hopeless properties (take n v) ≡ true → 1 ≤ n
  positive v zero h = let clash : false ≡ true = sym (hopeless-nil properties) ∙ h in cc
  positive v (suc n) h = omega arith

  pub shortest_hopeless-same : (v : List ℕ) (o : Option ℕ) → MatchOption o (HasNoDeadPrefix properties v) (IsShortestDeadPrefix properties v) → o ≡ shortest_hopeless (hopeless properties) v
  shortest_hopeless-same v None alive = sym (shortest_hopeless-none (hopeless properties) v (λ k low high. clear (take k v) (alive k)))
  shortest_hopeless-same v (Some n) s =
      let holds : hopeless properties (take n v) ≡ true = hopeless-from properties (take n v) s.holds in
      sym (shortest_hopeless-at (hopeless properties) v n (positive v n holds) s.within holds (λ k low high. clear (take k v) (s.first k high)))
