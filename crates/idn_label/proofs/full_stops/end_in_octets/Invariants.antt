use Rattle.std.proofs.Common.{◌≤◌, ◌-◌, length}
use Rattle.idn_label.proofs.LabelsByPlace.{IsWithoutStop}
use Rattle.idn_label.proofs.full_stops.end_in_octets.Given as goal

abbrev pub invariant-loop-at : goal.invariant-loop-at
invariant-loop-at l = record {
  order : l.start ≤ l.at;
  within : l.at ≤ length l.name;
  none : IsWithoutStop l.name l.start l.at;
}

abbrev pub decreases-loop-at : goal.decreases-loop-at
decreases-loop-at l = length l.name - l.at
