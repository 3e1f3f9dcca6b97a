use Rattle.std.proofs.Common.{Ok, ap, sym, ◌∙◌}
use Rattle.std.proofs.lemmas.Result.{err_from_is_err_and}
use Rattle.idna.specs.Labels.{labels_of}
use Rattle.idn_label.specs.Answers.{and_then, unless_fault}
use Rattle.idn_label.specs.Decode.{decode_answer, decoded_name, name_fault}
use Rattle.idn_label.proofs.ALabels.{decoded_name-a_label}
use Rattle.idn_label.proofs.BidiNames.{whole, decode_answer-a_label, decode_answer-whole}
use Rattle.idn_label.proofs.decoding.decode_name_by.Goals as goal

pub returns-in_err-decoded-clause-back : goal.returns-in_err-decoded-clause-back
returns-in_err-decoded-clause-back c =
    let p = err_from_is_err_and c.from_residual.result c.from_residual.ensures.1 in
    rw (p.1, p.2)
    (λ registered ok is other.
    sym (decoded_name-a_label c.args.properties registered ok) ∙ ap (decoded_name c.args.properties) (sym is) ∙ c.in_err-decoded.ensures.answer other)

pub returns-in-None-clause-back : goal.returns-in-None-clause-back
returns-in-None-clause-back c =
    λ registered ok is.
    sym (decoded_name-a_label c.args.properties registered ok) ∙ ap (decoded_name c.args.properties) (sym is) ∙ c.in_ok-decoded.ensures.answer

pub returns-in-Some-clause-back : goal.returns-in-Some-clause-back
returns-in-Some-clause-back c =
    λ registered ok is other.
    let items = c.in_ok-decoded.decoded.items in
    sym (decode_answer-a_label c.args.properties registered ok)
    ∙ ap (decode_answer c.args.properties) (sym is)
    ∙ decode_answer-whole c.args.properties c.args.name.now
    ∙ ap (λ answer. and_then answer (whole c.args.properties)) c.in_ok-decoded.ensures.answer
    ∙ ap (λ fault. unless_fault fault (Ok items))
    (ap (λ name. name_fault c.args.properties (labels_of name)) (sym c.deref.ensures.value) ∙ sym c.name_fault.ensures ∙ c.in-Some.is)
