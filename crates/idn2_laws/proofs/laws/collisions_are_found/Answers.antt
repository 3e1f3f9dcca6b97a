use Rattle.idn2_laws.proofs.CollisionLaws.{are-found}
use Rattle.idn2_laws.proofs.laws.collisions_are_found.Goals as goal

pub returns : goal.returns
returns c = are-found
