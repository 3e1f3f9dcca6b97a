use Rattle.variant_dispositions.proofs.LawLemmas.{TwoDefaultsCount-holds}
use Rattle.variant_dispositions.proofs.laws.two_defaults_count.Goals as goal

pub returns : goal.returns
returns c = TwoDefaultsCount-holds
