use Rattle.variant_list.proofs.TestedLaws.{variants_are_accepted_tested}
use Rattle.variant_list.proofs.laws.variants_are_accepted_tested.Goals as goal

pub returns : goal.returns
returns c = variants_are_accepted_tested
