use Rattle.idn2_laws.proofs.DispositionLaws.{dispositions-told}
use Rattle.idn2_laws.proofs.laws.dispositions_are_told.Goals as goal

pub returns : goal.returns
returns c = dispositions-told
