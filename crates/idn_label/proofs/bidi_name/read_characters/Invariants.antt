use Rattle.std.proofs.Common.{◌≤◌, ◌-◌, length, take}
use Rattle.idn_text.specs.Points.{IsUtf8Of}
use Rattle.idn_label.proofs.bidi_name.read_characters.Given as goal

-- the characters so far are read, each of an octet at least
abbrev pub invariant-loop-at : goal.invariant-loop-at
invariant-loop-at g l = record {
  within : l.at ≤ length l.label;
  few : length l.room.items ≤ l.at;
  read : IsUtf8Of (take l.at l.label) l.room.items;
}

abbrev pub decreases-loop-at : goal.decreases-loop-at
decreases-loop-at g l = length l.label - l.at
