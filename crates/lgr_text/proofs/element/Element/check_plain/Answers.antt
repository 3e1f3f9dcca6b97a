use Rattle.std.proofs.Common.{◌≡◌, ◌&&◌, true, false, Ok, Option, ap, ◌∙◌, subst}
use Rattle.std.proofs.lemmas.Result.{err_from_is_err_and}
use Rattle.lgr_text.specs.declared.element.Element as held
use Rattle.lgr_text.specs.Attributes.{are_among}
use Rattle.lgr_text.specs.Elements.{is_empty}
use Rattle.lgr_text.specs.inner.Reading.{IsFirst, NextIs, after_blanks}
use Rattle.lgr_text.proofs.ElementLemmas.{every-nothing, every-first, every-text}
use Rattle.lgr_text.proofs.PassLemmas.{next-is-not}
use Rattle.lgr_text.proofs.element.Element.check_plain.Goals as goal

pub returns-in_err-next : goal.returns-in_err-next
returns-in_err-next c = λ k say.
    let among : are_among c.args.names.now c.args.self.now.attributes.now ≡ true = c.in_ok-check.ensures {u = tt} in
    let p = err_from_is_err_and c.from_residual-in_err-next.result c.from_residual-in_err-next.ensures.1 in
    rw (p.1, p.2) (next-is-not (are_among c.args.names.now c.args.self.now.attributes.now && is_empty k) _ c.next.new.self (after_blanks k) (λ h. ap (λ b. b && is_empty k) among ∙ every-text (λ node. false) k h) ((c.in_err-next.ensures {u = tt}).next k say))

pub returns-in-None : goal.returns-in-None
returns-in-None c = λ k say.
    let among : are_among c.args.names.now c.args.self.now.attributes.now ≡ true = c.in_ok-check.ensures {u = tt} in
    let next : after_blanks k ≡ _ = subst (λ (o : Option held.Element). NextIs c.next.new.self (after_blanks k) (Ok o)) c.in-None.is ((c.in_ok-next.ensures {u = tt}).next k say) in
    ap (λ b. b && is_empty k) among ∙ every-nothing (λ node. false) k next

pub returns-in-Some : goal.returns-in-Some
returns-in-Some c = λ k say.
    let among : are_among c.args.names.now c.args.self.now.attributes.now ≡ true = c.in_ok-check.ensures {u = tt} in
    let e = c.in-Some.field-0 in
    let next : IsFirst e c.next.new.self (after_blanks k) = subst (λ (o : Option held.Element). NextIs c.next.new.self (after_blanks k) (Ok o)) c.in-Some.is ((c.in_ok-next.ensures {u = tt}).next k say) in
    rw c.wrong.ensures (ap (λ b. b && is_empty k) among ∙ every-first (λ node. false) k e.name.now e.attributes.now next.within next.more next.is)
