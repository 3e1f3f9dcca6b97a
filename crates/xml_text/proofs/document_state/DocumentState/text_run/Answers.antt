use Rattle.std.proofs.Common.{rules, ◌≡◌, ◌++◌, take}
use Rattle.xml_text.specs.inner.DocumentSteps.{state}
use Rattle.xml_text.proofs.DocumentTaken.{text_goes}
use Rattle.xml_text.proofs.document_state.DocumentState.text_run.Goals as goal

pub returns : goal.returns
returns c =
    let len = c.len-len in
    let is : c.add.new.self ≡ c.args.self.now.said ++ take len.result c.args.rest.now = search rules in
    text_goes (state c.args.self.now) c.args.rest.now len.result (c.add.new.self) c.requires.inside len.ensures.some len.ensures.within len.ensures.run is
