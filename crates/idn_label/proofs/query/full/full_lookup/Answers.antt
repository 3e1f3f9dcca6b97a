use Rattle.std.proofs.Common.{◌++◌, true, length, Ok, sym, ap, ◌∙◌, rules, arith}
use Rattle.std.proofs.lemmas.Bool.{cond-true, cond-false, false≢true}
use Rattle.idna.specs.Uts46.{verify_dns_length}
use Rattle.idn_label.proofs.LookupLemmas.{utf8_answer-measured, utf8_answer-refused, utf8_answer-other, verified-short}
use Rattle.idn_label.proofs.query.full.full_lookup.Goals as goal

pub returns-in-Err-Invalid-clause-answer : goal.returns-in-Err-Invalid-clause-answer
returns-in-Err-Invalid-clause-answer c = λ _. utf8_answer-other c.args.name.now c.args.std3 (search rules)

pub returns-in-Err-Invalid-2-clause-answer : goal.returns-in-Err-Invalid-2-clause-answer
returns-in-Err-Invalid-2-clause-answer c = λ _.
    utf8_answer-refused c.args.name.now c.args.std3 c.deny_list.result c.deny_list.ensures (rw c.in-Err-Invalid.field-0-is at c.in-Err-Invalid.ensures.value) (search rules)

pub returns-then-not-verify_dns_length-clause-answer : goal.returns-then-not-verify_dns_length-clause-answer
returns-then-not-verify_dns_length-clause-answer c =
    λ _. utf8_answer-measured c.args.name.now c.args.std3 c.deny_list.result _ c.deny_list.ensures c.in-Ok.ensures.value
    ∙ cond-false _ _ _ (ap (λ x. verify_dns_length x true) (sym c.as_str-text.ensures.value) ∙ sym c.verify_dns_length.ensures ∙ c.if-not-verify_dns_length.true)

pub returns-clause-answer : goal.returns-clause-answer
returns-clause-answer c =
    utf8_answer-measured c.args.name.now c.args.std3 c.deny_list.result _ c.deny_list.ensures c.in-Ok.ensures.value
    ∙ cond-true _ _ _ (ap (λ x. verify_dns_length x true) (sym c.as_str-text.ensures.value) ∙ sym c.verify_dns_length.ensures ∙ c.if-not-verify_dns_length.false)
    ∙ ap Ok (sym (c.in-Ok-try_extend_from_slice.ensures.ok ∙ ap (λ x. x ++ c.as_bytes.result.now) c.clear.ensures ∙ c.as_bytes.ensures.value ∙ c.as_str-text.ensures.value))

pub unreachable-requires : goal.unreachable-requires
unreachable-requires c =
    let short = verified-short c.as_str-text.result.now (sym c.verify_dns_length.ensures ∙ c.if-not-verify_dns_length.false) in
    false≢true (c.in_default.ensures.variant.1 (omega (arith, short, ap length c.as_bytes.ensures.value, ap length c.clear.ensures)))
