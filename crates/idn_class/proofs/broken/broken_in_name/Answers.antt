use Rattle.std.proofs.Common.{sym, ◌∙◌, inl, inr, arith}
use Rattle.idn_class.proofs.CauseLemmas.{in_name-empty, in_name-ltr, in_name-rtl, in_name-first}
use Rattle.idn_class.proofs.broken.broken_in_name.Goals as goal

pub returns-in_default : goal.returns-in_default
returns-in_default c = sym (in_name-empty c.args.properties c.args.label.now (omega arith))

pub returns-in-R : goal.returns-in-R
returns-in-R c =
    let class = sym c.bidi_class.ensures in
    c.broken_in_rtl.ensures
    ∙ sym (in_name-rtl c.args.properties c.args.label.now c.in-len1-up.len_at_least (elim c.in-R.is [ inl r ↦ inl (class ∙ r) | inr al ↦ inr (class ∙ al) ]))

pub returns-in-L : goal.returns-in-L
returns-in-L c =
    c.broken_in_ltr.ensures
    ∙ sym (in_name-ltr c.args.properties c.args.label.now c.in-len1-up.len_at_least (sym c.bidi_class.ensures ∙ c.in-L.is))

pub returns-in_default-bidi_class : goal.returns-in_default-bidi_class
returns-in_default-bidi_class c =
    let class = c.bidi_class.ensures in
    sym
    (in_name-first c.args.properties c.args.label.now c.in-len1-up.len_at_least (λ is. c.in_default-bidi_class.not-L (class ∙ is)) (λ is. c.in_default-bidi_class.not-R (class ∙ is)) (λ is. c.in_default-bidi_class.not-AL (class ∙ is)))
