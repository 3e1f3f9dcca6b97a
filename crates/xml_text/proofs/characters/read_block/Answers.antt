use Rattle.std.proofs.Common.{◌≡◌, true, take, drop, rules}
use Rattle.std.specs.List.{list_all}
use Rattle.xml_text.specs.inner.Blocks.{is_plain}
use Rattle.xml_text.proofs.CharacterLemmas.{plain_more}
use Rattle.xml_text.proofs.characters.read_block.Goals as goal

pub returns-in-Some-clause-read : goal.returns-in-Some-clause-read
returns-in-Some-clause-read c =
    let text = c.args.text.now in
    let at = c.args.at in
    let is : c.in-Some.block.now ≡ take 32 (drop at text) = search rules in
    let plain : list_all is_plain c.in-Some.block.now ≡ true = search rules in
    plain_more text c.in-Some.block.now at 32 c.requires.before is plain
