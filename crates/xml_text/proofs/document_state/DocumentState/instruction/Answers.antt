use Rattle.std.proofs.Common.{rules, ◌≡◌, ◌==◌, ◌&&◌, false, get_or, arith}
use Rattle.std.proofs.lemmas.Bool.Decides.{nat_tests}
use Rattle.xml_text.specs.inner.DocumentSteps.{state}
use Rattle.xml_text.proofs.DocumentTaken.{instruction_goes}
use Rattle.xml_text.proofs.document_state.DocumentState.instruction.Goals as goal
use Rattle.xml_text.proofs.document_state.DocumentState.instruction.Goals.{else-is_mark-via-then-is_mark+else-byte-eq62, else-is_mark-via-else-is_mark}

pub returns : goal.returns
returns c =
    let goes : (c.args.is_mark && get_or c.args.rest.now 0 0 == 62) ≡ false = elim c.else-is_mark.branch [
      | else-is_mark-via-then-is_mark+else-byte-eq62 w ↦ search rules
      | else-is_mark-via-else-is_mark w ↦ search rules
    ] in
    let other : (get_or c.args.rest.now 0 0 == 63) ≡ false = grind (arith, nat_tests, c.if-byte-eq63.false) in
    instruction_goes c.args.is_mark (state c.args.self.now) c.args.rest.now c.len.result c.len.ensures.some c.len.ensures.within c.len.ensures.run goes other
