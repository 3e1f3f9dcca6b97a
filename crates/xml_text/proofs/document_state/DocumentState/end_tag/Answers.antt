use Rattle.std.proofs.Common.{rules, ◌≡◌, ◌+◌, ◌<◌, length, get_or, sym, ◌∙◌, subst, arith}
use Rattle.xml_text.specs.inner.DocumentSteps.{State, state, step}
use Rattle.xml_text.specs.inner.Runs.{GoesOn}
use Rattle.xml_text.proofs.MarkupTaken.{end_goes}
use Rattle.xml_text.proofs.document_state.DocumentState.end_tag.Goals as goal

pub returns-in_ok-close-in-62 : goal.returns-in_ok-close-in-62
returns-in_ok-close-in-62 c =
    let s = state c.args.self.now in
    let rest = c.args.rest.now in
    let len = c.lead-len in
    let name = c.in-Some.expected.now in
    let end = c.split_at-2.result.1.now in
    let same : c.split_at-2.result.0.now ≡ name = search rules in
    let closes : get_or end 0 0 ≡ 62 = search rules in
    let ended : 0 < length end = omega arith in
    subst (λ (t : State). GoesOn step s rest (1 + (len.result + 1)) t) (sym c.in_ok-close-in-62.ensures)
    (end_goes s c.in-Some.ensures.0 name rest c.split_at.result.1.now end len.result c.requires.part c.in-Some.ensures.1 c.requires.some c.requires.slash c.split_at.ensures.back
    (sym same ∙ c.split_at-2.ensures.front) len.ensures.within len.ensures.run c.split_at-2.ensures.back ended closes)
