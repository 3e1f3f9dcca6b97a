use Rattle.variant_dispositions.proofs.LawLemmas.{ThereIsOne-holds}
use Rattle.variant_dispositions.proofs.laws.there_is_one.Goals as goal

pub returns : goal.returns
returns c = ThereIsOne-holds
