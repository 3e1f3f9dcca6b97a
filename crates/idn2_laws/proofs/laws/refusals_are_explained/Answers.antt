use Rattle.idn2_laws.proofs.LineCauseLaws.{refusals_explained}
use Rattle.idn2_laws.proofs.laws.refusals_are_explained.Goals as goal

pub returns : goal.returns
returns c = refusals_explained
