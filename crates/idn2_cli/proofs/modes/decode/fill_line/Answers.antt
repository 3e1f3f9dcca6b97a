use Rattle.std.proofs.Common.{◌<◌, length, Ok, ap, sym, ◌∙◌, arith}
use Rattle.std.proofs.lemmas.List.{take_more_set}
use Rattle.std.proofs.lemmas.Result.{err_from_is_err_and}
use Rattle.idn2_cli.specs.inner.LineAnswers.{with_feed}
use Rattle.idn2_cli.proofs.TextAnswers.{decoded_answer-some, decoded_answer-empty}
use Rattle.idn2_cli.proofs.modes.decode.fill_line.Goals as goal

pub returns-then-is_empty-clause-answer : goal.returns-then-is_empty-clause-answer
returns-then-is_empty-clause-answer c = λ _. ap with_feed (decoded_answer-empty c.args.properties c.args.name.now (sym c.is_empty.ensures ∙ c.if-is_empty.true))

pub returns-in_err-len-clause-answer : goal.returns-in_err-len-clause-answer
returns-in_err-len-clause-answer c =
    let p = err_from_is_err_and c.from_residual.result c.from_residual.ensures.1 in
    rw (p.1, p.2)
    (λ other. ap with_feed (decoded_answer-some c.args.properties c.args.name.now (sym c.is_empty.ensures ∙ c.if-is_empty.false) ∙ c.in_err-len.ensures.answer other))

pub returns-clause-answer : goal.returns-clause-answer
returns-clause-answer c =
    let len = c.in_ok-len.len in
    let line = c.decode_utf8.new.room in
    let fits : len < length line = omega (arith, c.in_ok-len.ensures.short, c.in_ok-len.ensures.length, c.requires.short, c.requires.room) in
    ap with_feed (decoded_answer-some c.args.properties c.args.name.now (sym c.is_empty.ensures ∙ c.if-is_empty.false) ∙ c.in_ok-len.ensures.answer)
    ∙ ap Ok (sym (take_more_set line len 10 fits))
