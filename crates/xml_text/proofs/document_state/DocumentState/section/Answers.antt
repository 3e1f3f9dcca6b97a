use Rattle.std.proofs.Common.{rules, ◌≡◌, ◌==◌, ◌&&◌, ◌++◌, false, get_or, take, arith}
use Rattle.std.proofs.lemmas.Bool.Decides.{nat_tests}
use Rattle.xml_text.specs.inner.DocumentSteps.{state, is_two, times}
use Rattle.xml_text.proofs.DocumentTaken.{section_goes}
use Rattle.xml_text.proofs.document_state.DocumentState.section.Goals as goal
use Rattle.xml_text.proofs.document_state.DocumentState.section.Goals.{else-is_two-via-then-is_two+else-byte-eq62, else-is_two-via-else-is_two}

pub returns : goal.returns
returns c =
    let len = c.len-len in
    let goes : (is_two c.args.brackets && get_or c.args.rest.now 0 0 == 62) ≡ false = elim c.else-is_two.branch [
      | else-is_two-via-then-is_two+else-byte-eq62 w ↦ search rules
      | else-is_two-via-else-is_two w ↦ search rules
    ] in
    let other : (get_or c.args.rest.now 0 0 == 93) ≡ false = grind (arith, nat_tests, c.if-byte-eq93.false) in
    let is : c.add-2.new.self ≡ (c.args.self.now.said ++ times c.args.brackets 93) ++ take len.result c.args.rest.now = search rules in
    section_goes c.args.brackets (state c.args.self.now) c.args.rest.now len.result (c.add-2.new.self) len.ensures.some len.ensures.within len.ensures.run other goes is
