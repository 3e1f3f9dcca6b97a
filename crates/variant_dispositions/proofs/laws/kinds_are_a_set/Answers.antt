use Rattle.variant_dispositions.proofs.SetLemmas.{KindsAreASet-holds}
use Rattle.variant_dispositions.proofs.laws.kinds_are_a_set.Goals as goal

pub returns : goal.returns
returns c = KindsAreASet-holds
