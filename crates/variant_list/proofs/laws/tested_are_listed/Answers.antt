use Rattle.variant_list.proofs.TestedLaws.{tested_are_listed}
use Rattle.variant_list.proofs.laws.tested_are_listed.Goals as goal

pub returns : goal.returns
returns c = tested_are_listed
