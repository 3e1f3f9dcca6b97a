use Rattle.std.proofs.Common.{◌≡◌, ◌≤◌, ◌-◌, length, take}
use Rattle.idn_class.specs.Facts.{AreFactsOf}
use Rattle.idn_text.specs.Points.{IsUtf8Of}
use Rattle.idn_label.proofs.code_points.read_points.Given as goal

-- the characters so far are read, each of an octet at least
abbrev pub invariant-loop-at : goal.invariant-loop-at
invariant-loop-at l = record {
  within : l.at ≤ length l.label;
  few : l.count ≤ l.at;
  wide : length l.room ≡ 1024;
  read : IsUtf8Of (take l.at l.label) (take l.count l.room);
  facts : AreFactsOf l.facts (take l.count l.room);
}

abbrev pub decreases-loop-at : goal.decreases-loop-at
decreases-loop-at l = length l.label - l.at
