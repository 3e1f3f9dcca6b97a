use Rattle.idn_label.proofs.LabelsByPlace.{IsWithoutStop}
use Rattle.idn_label.proofs.full_stops.label_end.Given as goal

abbrev pub invariant-loop-at : goal.invariant-loop-at
invariant-loop-at g l = IsWithoutStop (g.U.Unit.codes l.name) l.start l.at
