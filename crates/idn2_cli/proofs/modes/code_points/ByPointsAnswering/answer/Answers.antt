use Rattle.std.proofs.Common.{◌∙◌, ℕ, List, refl, sym, subst}
use Rattle.idn_text.proofs.Utf8Lemmas.{points_from_utf8}
use Rattle.idn2_output.specs.Writing.{StopsForMemory}
use Rattle.idn2_cli.specs.inner.ServedLines.{result_of}
use Rattle.idn2_cli.proofs.TextAnswers.{text_answer-not_utf8, text_answer-empty, text_answer-points}
use Rattle.idn2_output.proofs.WrittenOutputLines.{writes_nothing}
use Rattle.idn2_cli.proofs.modes.code_points.ByPointsAnswering.answer.Goals as goal

pub returns-in-Err-clause-written : goal.returns-in-Err-clause-written
returns-in-Err-clause-written g c = rw (text_answer-not_utf8 (g.M.PointAnswering.answer_of c.args.self.now.mode.now) c.args.asked.now.text.now c.in-Err.ensures.refused) (writes_nothing _)

pub returns-in-Err-clause-refused : goal.returns-in-Err-clause-refused
returns-in-Err-clause-refused g c = rw (text_answer-not_utf8 (g.M.PointAnswering.answer_of c.args.self.now.mode.now) c.args.asked.now.text.now c.in-Err.ensures.refused) refl

pub returns-in-Ok-clause-written : goal.returns-in-Ok-clause-written
returns-in-Ok-clause-written g c =
    let empty = sym c.is_empty.ensures ∙ c.if-is_empty.true in
    rw (text_answer-empty (g.M.PointAnswering.answer_of c.args.self.now.mode.now) _ _ c.in-Ok.ensures.decoded empty) (writes_nothing _)

pub returns-in-Ok-clause-refused : goal.returns-in-Ok-clause-refused
returns-in-Ok-clause-refused g c =
    let empty = sym c.is_empty.ensures ∙ c.if-is_empty.true in
    rw (text_answer-empty (g.M.PointAnswering.answer_of c.args.self.now.mode.now) _ _ c.in-Ok.ensures.decoded empty) refl

pub returns-in-Ok-2-clause-written : goal.returns-in-Ok-2-clause-written
returns-in-Ok-2-clause-written g c =
    let some = sym c.is_empty.ensures ∙ c.if-is_empty.false in
    rw (text_answer-points (g.M.PointAnswering.answer_of c.args.self.now.mode.now) _ _ c.in-Ok-2.ensures.decoded some)
    (rw c.as_slice-points.ensures.value at c.answer_points.ensures.written)

pub returns-in-Ok-2-clause-refused : goal.returns-in-Ok-2-clause-refused
returns-in-Ok-2-clause-refused g c =
    let some = sym c.is_empty.ensures ∙ c.if-is_empty.false in
    rw (text_answer-points (g.M.PointAnswering.answer_of c.args.self.now.mode.now) _ _ c.in-Ok-2.ensures.decoded some) (rw c.as_slice-points.ensures.value at c.answer_points.ensures.refused)

pub returns-in-Ok-2-clause-no_memory : goal.returns-in-Ok-2-clause-no_memory
returns-in-Ok-2-clause-no_memory g c =
    λ none.
    let points = points_from_utf8 _ _ c.in-Ok-2.ensures.decoded ∙ sym c.as_slice-points.ensures.value in
    c.answer_points.ensures.no_memory (subst (g.M.PointAnswering.needs_none c.args.self.now.mode.now) points none)

pub returns-in-Ok-2-clause-begun : goal.returns-in-Ok-2-clause-begun
returns-in-Ok-2-clause-begun g c =
    let points = points_from_utf8 _ _ c.in-Ok-2.ensures.decoded ∙ sym c.as_slice-points.ensures.value in
    subst (λ (ps : List ℕ). StopsForMemory (g.M.PointAnswering.goes_on c.args.self.now.mode.now ps) c.args.console.now c.answer_points.new.console (result_of c.answer_points.result)) (sym points) c.answer_points.ensures.begun
