use Rattle.idn2_laws.proofs.ReadBackLemmas.{said_read_back}
use Rattle.idn2_laws.proofs.laws.said_is_read_back.Goals as goal

pub returns : goal.returns
returns c = said_read_back
