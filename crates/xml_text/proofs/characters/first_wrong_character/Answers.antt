use Rattle.std.proofs.Common.{arith}
use Rattle.xml_text.proofs.CharacterLemmas.{no_characters, all_characters}
use Rattle.xml_text.proofs.characters.first_wrong_character.Goals as goal

pub loop-at-init : goal.loop-at-init
loop-at-init c = record { within = omega arith; read = no_characters }

pub returns-clause-right : goal.returns-clause-right
returns-clause-right c = all_characters c.args.text.now c.loop-at.at c.loop-at-test.false c.loop-at.invariant.read
