use Rattle.variant_list.proofs.RulesetLemmas.{rulesets_list_the_same}
use Rattle.variant_list.proofs.laws.rulesets_list_the_same.Goals as goal

pub returns : goal.returns
returns c = rulesets_list_the_same
