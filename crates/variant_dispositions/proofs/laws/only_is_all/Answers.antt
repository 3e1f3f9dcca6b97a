use Rattle.variant_dispositions.proofs.LawLemmas.{OnlyIsAll-holds}
use Rattle.variant_dispositions.proofs.laws.only_is_all.Goals as goal

pub returns : goal.returns
returns c = OnlyIsAll-holds
