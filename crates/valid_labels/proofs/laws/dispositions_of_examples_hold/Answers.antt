use Rattle.std.proofs.Common.{refl}
use Rattle.ruleset_text.specs.Names.{number_of}
use Rattle.variant_dispositions.specs.Kinds.{kinds_in}
use Rattle.valid_labels.proofs.laws.dispositions_of_examples_hold.Goals as goal

pub returns : goal.returns
unfolding kinds_in number_of
returns c = record {
  without_it = refl;
  by_default = refl;
  by_default_first = refl;
  by_default_second = refl;
  by_action = refl;
  by_action_not = refl;
  by_rule = refl;
  by_rule_not = refl;
  by_all = refl;
  all_of_unmapped = refl;
  unclear = refl;
  unclear_cause = refl;
  clear = refl;
  clear_both = refl;
}
