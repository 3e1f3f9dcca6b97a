use Rattle.std.proofs.Common.{◌≡◌, Some}
use Rattle.std.proofs.lemmas.Result.{err_from_is_err_and}
use Rattle.idn_text.specs.Reading.{line_at}
use Rattle.idn2_answers.specs.Answers.{line_answer}
use Rattle.idn2_refusals.specs.Explaining.{explained_by}
use Rattle.idn2_cli.specs.inner.LineAnswers.{refusal_in}
use Rattle.idn2_output.specs.declared.stop.Stop.TheVariants as stop
use Rattle.idn2_cli.proofs.RefusedLines.{cause_needs_none, stopped_output}
use Rattle.idn2_cli.proofs.session.lines.serve_line.Goals as goal

pub returns-in-Stopped-clause-written : goal.returns-in-Stopped-clause-written
returns-in-Stopped-clause-written g c =
    stopped_output c.in-Stopped.why _ _ c.args.form _ (line_at c.args.input.now) (line_answer (g.M.Answering.answer_of c.args.mode.now) (line_at c.args.input.now).body) c.in-Stopped.ensures.written

pub returns-in_err-refuse-in-Refused-clause-no_memory : goal.returns-in_err-refuse-in-Refused-clause-no_memory
returns-in_err-refuse-in-Refused-clause-no_memory g c = λ needs stopped.
    let p = err_from_is_err_and c.from_residual.result c.from_residual.ensures.1 in
    let answer = g.M.Answering.answer_of c.args.mode.now in
    let body = (line_at c.args.input.now).body in
    let refused : Some c.in-Refused.refusal ≡ refusal_in (line_answer answer body) = c.in-Refused.ensures.refused in
    let memory : c.in_err-refuse-in-Refused.field-0.0 ≡ stop.Memory = cc (p.1, p.2) in
    c.in_err-refuse-in-Refused.ensures.no_memory
    (cause_needs_none (explained_by c.args.explaining.now) answer (g.M.Answering.needs_none c.args.mode.now) body c.in-Refused.refusal needs refused) memory
