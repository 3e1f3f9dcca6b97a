use Rattle.std.proofs.Common.{◌≡◌, ◌↔◌, ℕ, List, None, Some, length}
use Rattle.idn_class.specs.declared.properties.Properties.{Properties}
use Rattle.idn_class.specs.Causes.{IsFirstFailing, misplaced_joiner}
use Rattle.idn_class.specs.ContextJ.{JoinerPasses, PassesContextJ}
use Rattle.idn_class.specs.ContextO.{OtherPasses}
use Rattle.idn_class.specs.Tests.{joiner_at, other_at}
use Rattle.idn_class.proofs.BrokenLemmas.{broken_condition-is, broken_condition-none, in_name-is, in_name-none}
use Rattle.idn_class.proofs.CauseLemmas.{failing_in-is, first_failing-none_by, no_first_place}
use Rattle.idn_class.proofs.ContextJTests.{joiner_at-rule}
use Rattle.idn_class.proofs.ContextOTests.{other_at-rule}
use Rattle.idn_class.proofs.laws.first_faults_are_told.Goals as goal

joiner-is : (properties : Properties) (label : List ℕ) (place : ℕ) → (misplaced_joiner properties label ≡ Some place) ↔ IsFirstFailing label (JoinerPasses properties label) place
joiner-is properties label place = failing_in-is label (joiner_at properties label) (JoinerPasses properties label) (joiner_at-rule properties label) place

joiner-none : (properties : Properties) (label : List ℕ) → (misplaced_joiner properties label ≡ None) ↔ PassesContextJ properties label
joiner-none properties label = (
  λ none k within. no_first_place label (joiner_at properties label) (JoinerPasses properties label) (joiner_at-rule properties label) none k within,
  λ passes. first_failing-none_by (length label) (joiner_at properties label) (JoinerPasses properties label) (joiner_at-rule properties label) (λ k within. passes k within),
)

pub returns : goal.returns
returns c = record {
  joiner = joiner-is;
  no_joiner = joiner-none;
  other = λ label place. failing_in-is label (other_at label) (OtherPasses label) (λ k low. other_at-rule label k) place;
  no_other = λ label. (
    λ none k within. no_first_place label (other_at label) (OtherPasses label) (λ k low. other_at-rule label k) none k within,
    λ passes. first_failing-none_by (length label) (other_at label) (OtherPasses label) (λ k low. other_at-rule label k) (λ k within. passes k within),
  );
  bidi = broken_condition-is;
  no_bidi = broken_condition-none;
  in_name = in_name-is;
  none_in_name = in_name-none;
}
