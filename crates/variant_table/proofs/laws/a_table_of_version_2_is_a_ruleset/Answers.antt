use Rattle.variant_table.proofs.RulesetLemmas.{as_three}
use Rattle.variant_table.proofs.laws.a_table_of_version_2_is_a_ruleset.Goals as goal

pub returns : goal.returns
returns c = as_three
