use Rattle.variant_table.proofs.RulesetLemmas.{not_both_notations}
use Rattle.variant_table.proofs.laws.no_text_is_a_table_and_a_ruleset.Goals as goal

pub returns : goal.returns
returns c = not_both_notations
