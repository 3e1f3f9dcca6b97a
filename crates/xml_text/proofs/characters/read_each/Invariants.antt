use Rattle.std.proofs.Common.{◌≤◌, ◌-◌, length, take}
use Rattle.xml_text.specs.Characters.{AreCharacters}
use Rattle.xml_text.proofs.characters.read_each.Given as goal

-- the bytes so far are characters
abbrev pub invariant-loop-place : goal.invariant-loop-place
invariant-loop-place l = record {
  from : l.at ≤ l.place;
  within : l.place ≤ length l.text;
  read : AreCharacters (take l.place l.text);
}

abbrev pub decreases-loop-place : goal.decreases-loop-place
decreases-loop-place l = length l.text - l.place
