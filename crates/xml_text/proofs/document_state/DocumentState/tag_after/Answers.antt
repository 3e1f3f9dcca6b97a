use Rattle.std.proofs.Common.{rules, ◌≡◌, true, get_or}
use Rattle.xml_text.specs.Names.{is_name_start}
use Rattle.xml_text.specs.inner.DocumentSteps.{state}
use Rattle.xml_text.proofs.MarkupTaken.{opened_goes}
use Rattle.xml_text.proofs.document_state.DocumentState.tag_after.Goals as goal

pub returns : goal.returns
returns c =
    let starts : is_name_start (get_or c.args.rest.now 0 0) ≡ true = search rules in
    opened_goes (state c.args.self.now) (state c.open_tag.new.self) c.args.rest.now c.in_ok-len.len c.requires starts c.in_ok-len.ensures.line c.in_ok-len.ensures.goes
