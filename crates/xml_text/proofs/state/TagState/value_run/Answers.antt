use Rattle.std.proofs.Common.{rules, ◌≡◌, ◌++◌, take}
use Rattle.xml_text.specs.inner.TagSteps.{state}
use Rattle.xml_text.proofs.TagTaken.{value_goes}
use Rattle.xml_text.proofs.state.TagState.value_run.Goals as goal

pub returns : goal.returns
returns c =
    let len = c.len-len in
    let is : c.add.new.self ≡ c.args.self.now.value ++ take len.result c.args.rest.now = search rules in
    value_goes c.args.quote (state c.args.self.now) c.args.rest.now len.result (c.add.new.self) c.requires.phase len.ensures.some len.ensures.within len.ensures.run is
