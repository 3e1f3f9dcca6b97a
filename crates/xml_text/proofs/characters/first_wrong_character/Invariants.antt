use Rattle.std.proofs.Common.{◌≤◌, ◌-◌, length, take}
use Rattle.xml_text.specs.Characters.{AreCharacters}
use Rattle.xml_text.proofs.characters.first_wrong_character.Given as goal

-- the bytes so far are characters
abbrev pub invariant-loop-at : goal.invariant-loop-at
invariant-loop-at l = record {
  within : l.at ≤ length l.text;
  read : AreCharacters (take l.at l.text);
}

abbrev pub decreases-loop-at : goal.decreases-loop-at
decreases-loop-at l = length l.text - l.at
