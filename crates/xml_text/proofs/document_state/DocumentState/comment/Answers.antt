use Rattle.std.proofs.Common.{rules, ◌≡◌, ◌==◌, false, get_or, arith}
use Rattle.std.proofs.lemmas.Bool.Decides.{nat_tests}
use Rattle.xml_text.specs.inner.DocumentSteps.{state, is_two}
use Rattle.xml_text.proofs.DocumentTaken.{comment_goes}
use Rattle.xml_text.proofs.document_state.DocumentState.comment.Goals as goal

pub returns : goal.returns
returns c =
    let few : is_two c.args.dashes ≡ false = search rules in
    let other : (get_or c.args.rest.now 0 0 == 45) ≡ false = grind (arith, nat_tests, c.if-byte-eq45.false) in
    comment_goes c.args.dashes (state c.args.self.now) c.args.rest.now c.len.result c.len.ensures.some c.len.ensures.within c.len.ensures.run few other
