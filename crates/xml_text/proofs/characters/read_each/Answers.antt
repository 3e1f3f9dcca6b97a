use Rattle.std.proofs.Common.{◌≡◌, true, false, arith, rules}
use Rattle.xml_text.specs.References.{is_character}
use Rattle.xml_text.proofs.CharacterLemmas.{one_character_more, wrong_character, no_character}
use Rattle.xml_text.proofs.characters.read_each.Goals as goal

pub loop-place-preserved : goal.loop-place-preserved
loop-place-preserved c =
    let i = c.loop-place.invariant in
    let step = c.in-Some.ensures in
    let is : is_character c.in-Some.character ≡ true = search rules in
    record {
      from = omega arith;
      within = step.within;
      read = one_character_more c.args.text.now c.loop-place.place c.in-Some.next c.in-Some.character i.read step.read step.scalar_value is;
    }

pub returns-then-not-is_character-clause-wrong : goal.returns-then-not-is_character-clause-wrong
returns-then-not-is_character-clause-wrong c =
    let step = c.in-Some.ensures in
    let is : is_character c.in-Some.character ≡ false = search rules in
    wrong_character c.args.text.now c.loop-place.place c.in-Some.next c.in-Some.character c.loop-place-test.true c.loop-place.invariant.read step.read is

pub returns-in_default-clause-wrong : goal.returns-in_default-clause-wrong
returns-in_default-clause-wrong c = no_character c.args.text.now c.loop-place.place c.loop-place-test.true c.loop-place.invariant.read c.in_default.ensures.none
