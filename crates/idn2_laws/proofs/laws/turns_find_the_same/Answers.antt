use Rattle.idn2_laws.proofs.TurnLaws.{jumps-find, turns-find}
use Rattle.idn2_laws.proofs.laws.turns_find_the_same.Goals as goal

pub returns : goal.returns
returns c = record { near = turns-find; among = jumps-find }
