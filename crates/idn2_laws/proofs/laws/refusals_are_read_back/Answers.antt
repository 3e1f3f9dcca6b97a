use Rattle.idn2_laws.proofs.ReadBackCauses.{refusals_read_back}
use Rattle.idn2_laws.proofs.laws.refusals_are_read_back.Goals as goal

pub returns : goal.returns
returns c = refusals_read_back
