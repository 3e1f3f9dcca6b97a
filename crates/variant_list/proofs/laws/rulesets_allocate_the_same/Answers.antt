use Rattle.variant_list.proofs.ReadOnceLemmas.{rulesets_allocate_the_same}
use Rattle.variant_list.proofs.laws.rulesets_allocate_the_same.Goals as goal

pub returns : goal.returns
returns c = rulesets_allocate_the_same
