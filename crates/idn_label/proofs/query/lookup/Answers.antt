use Rattle.std.proofs.Common.{◌++◌, Ok, sym, ap, take, take_all, encode_utf8, ◌∙◌, arith}
use Rattle.std.proofs.lemmas.Result.{err_from_is_err_and}
use Rattle.std.proofs.lemmas.Str.{IsUtf8-from_ascii}
use Rattle.idn_text.specs.Points.{utf8_of}
use Rattle.idn_text.proofs.Utf8Lemmas.{utf8_of_more}
use Rattle.idn_label.proofs.LookupLemmas.{utf8_answer-points, utf8_answer-ascii}
use Rattle.idn_label.proofs.query.lookup.Goals as goal

pub loop-c-preserved : goal.loop-c-preserved
loop-c-preserved c =
    let name = c.args.name.now in
    c.in_ok-push.ensures.bytes
    ∙ ap (λ text. text ++ encode_utf8 c.to_char.result) c.loop-c.invariant
    ∙ ap (λ ch. utf8_of (take c.loop-c.c-index name) ++ encode_utf8 ch) c.to_char.ensures
    ∙ sym (utf8_of_more name c.loop-c.c-index c.loop-c-test.true)

pub returns-in_err-len : goal.returns-in_err-len
returns-in_err-len c =
    let p = err_from_is_err_and c.from_residual-in_err-len.result c.from_residual-in_err-len.ensures.1 in
    let text = c.as_bytes.ensures.value ∙ c.loop-c.invariant ∙ ap utf8_of (take_all c.loop-c.c-index c.args.name.now (omega (arith, c.loop-c-test.false))) in
    rw (p.1, p.2) (λ other. sym (utf8_answer-points c.args.name.now c.as_bytes.result.now c.args.std3 c.requires text) ∙ c.in_err-len.ensures.answer other)

pub unreachable-requires : goal.unreachable-requires
unreachable-requires c =
    let ascii = utf8_answer-ascii _ _ c.args.std3 c.in_ok-len.ensures.answer in
    c.in_default.ensures.cases.0 (IsUtf8-from_ascii _ ascii)

pub returns : goal.returns
returns c =
    let text = c.as_bytes.ensures.value ∙ c.loop-c.invariant ∙ ap utf8_of (take_all c.loop-c.c-index c.args.name.now (omega (arith, c.loop-c-test.false))) in
    sym (utf8_answer-points c.args.name.now c.as_bytes.result.now c.args.std3 c.requires text)
    ∙ c.in_ok-len.ensures.answer
    ∙ ap Ok (sym (c.in_ok-from_str.ensures.ok ∙ c.in-Ok.ensures.cases.0))
