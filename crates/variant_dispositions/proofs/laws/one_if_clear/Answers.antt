use Rattle.variant_dispositions.proofs.LawLemmas.{OneIfClear-holds}
use Rattle.variant_dispositions.proofs.laws.one_if_clear.Goals as goal

pub returns : goal.returns
returns c = OneIfClear-holds
