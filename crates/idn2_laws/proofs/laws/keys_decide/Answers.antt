use Rattle.idn2_laws.proofs.CollisionLaws.{keys-decide}
use Rattle.idn2_laws.proofs.laws.keys_decide.Goals as goal

pub returns : goal.returns
returns c = keys-decide
