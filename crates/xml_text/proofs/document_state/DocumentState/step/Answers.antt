use Rattle.std.proofs.Common.{◌≡◌, ℕ, get_or, subst}
use Rattle.xml_text.specs.inner.DocumentSteps.{state, step, on_line, line_next}
use Rattle.xml_text.specs.inner.Runs.{Takes}
use Rattle.xml_text.proofs.DocumentTaken.{feed_line, other_line}
use Rattle.xml_text.proofs.document_state.DocumentState.step.Goals as goal
use Rattle.xml_text.proofs.document_state.DocumentState.step.Goals.{then-rest-eq10, else-rest-eq10}

pub returns-clause-taken : goal.returns-clause-taken
returns-clause-taken c =
    let s = state c.args.self.now in
    let rest = c.args.rest.now in
    let line : line_next s rest ≡ c.if-rest-eq10.line = elim c.if-rest-eq10.branch [
      | then-rest-eq10 w ↦ feed_line s.line (get_or rest 0 0) c.if-rest-eq10.line w.if-rest-eq10.true w.line-is
      | else-rest-eq10 w ↦ other_line s.line (get_or rest 0 0) c.if-rest-eq10.line w.if-rest-eq10.false w.line-is
    ] in
    subst (λ (l : ℕ). Takes step (step s (get_or rest 0 0)) rest c.in_ok-taken.taken (on_line l (state c.take.new.self))) line c.in_ok-taken.ensures
