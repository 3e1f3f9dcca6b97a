use Rattle.std.proofs.Common.{◌≤◌, ◌-◌, length, take}
use Rattle.idn_text.specs.Points.{IsUtf8Of}
use Rattle.idn_text.proofs.utf8.decode_points.Given as goal

-- the characters so far are read, each of a byte at least
abbrev pub invariant-loop-at : goal.invariant-loop-at
invariant-loop-at l = record {
  within : l.at ≤ length l.bytes;
  few : length l.points.items ≤ l.at;
  read : IsUtf8Of (take l.at l.bytes) l.points.items;
}

abbrev pub decreases-loop-at : goal.decreases-loop-at
decreases-loop-at l = length l.bytes - l.at
