use Rattle.std.proofs.Common.{◌≤◌, ◌-◌, List, ℕ, [], length, take, flat_map}
use Rattle.idna.specs.Uts46.{map_char}
use Rattle.idn_text.specs.Points.{IsUtf8Of}
use Rattle.idn_label.specs.inner.SimpleNames.{AreAppended}
use Rattle.idn_label.proofs.query.simple.map_name.Given as goal

-- the characters so far are read and mapped
abbrev pub invariant-loop-at : goal.invariant-loop-at
invariant-loop-at l = record {
  within : l.at ≤ length l.name;
  points : List ℕ;
  utf8 : IsUtf8Of (take l.at l.name) points;
  mapped : AreAppended [] l.mapped.items (flat_map map_char points) l.facts;
}

abbrev pub decreases-loop-at : goal.decreases-loop-at
decreases-loop-at l = length l.name - l.at
