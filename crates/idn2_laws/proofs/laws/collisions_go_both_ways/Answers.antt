use Rattle.idn2_laws.proofs.CollisionLaws.{both-ways}
use Rattle.idn2_laws.proofs.laws.collisions_go_both_ways.Goals as goal

pub returns : goal.returns
returns c = both-ways
