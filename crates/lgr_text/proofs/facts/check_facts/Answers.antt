use Rattle.std.proofs.Common.{◌≡◌, None, Ok, Option, subst, arith}
use Rattle.std.proofs.lemmas.Result.{err_from_is_err_and}
use Rattle.lgr_text.specs.declared.element.Element as held
use Rattle.lgr_text.specs.Elements
use Rattle.lgr_text.specs.Elements.{every_element}
use Rattle.lgr_text.specs.Facts.{is_fact}
use Rattle.lgr_text.specs.inner.Reading.{IsFirst, NextIs, after_blanks, node}
use Rattle.lgr_text.proofs.LoopLemmas.{all-left-init, all-left-first, all-left-none, all-left-text}
use Rattle.lgr_text.proofs.PassLemmas.{next-is-not, is-not-is-not}
use Rattle.lgr_text.proofs.facts.check_facts.Goals as goal

pub loop-element-init : goal.loop-element-init
loop-element-init c = λ k say. all-left-init is_fact c.args.elements k say

pub returns-in_err-element : goal.returns-in_err-element
returns-in_err-element c = λ k say.
    let l = c.loop-element.invariant k say in
    let p = err_from_is_err_and c.from_residual.result c.from_residual.ensures.1 in
    rw (p.1, p.2) (next-is-not (every_element is_fact k) _ c.next.new.self (after_blanks l.content)
    (λ h. all-left-text is_fact c.loop-element.elements c.next.new.self k l h) ((c.in_err-element.ensures {u = tt}).next l.content l.say))

pub returns-in_err-check_fact : goal.returns-in_err-check_fact
returns-in_err-check_fact c = λ k say.
    let l = c.loop-element.invariant k say in
    let e = c.in-Some.element in
    let next : IsFirst e c.next.new.self (after_blanks l.content) = subst (λ (o : Option held.Element). NextIs c.next.new.self (after_blanks l.content) (Ok o)) c.in-Some.is ((c.in_ok-element.ensures {u = tt}).next l.content l.say) in
    let step = all-left-first is_fact c.loop-element.elements c.next.new.self k l e next in
    let p = err_from_is_err_and c.from_residual-in_err-check_fact.result c.from_residual-in_err-check_fact.ensures.1 in
    rw (p.1, p.2) (is-not-is-not (is_fact (node e step.0)) (every_element is_fact k) _ step.3 (c.in_err-check_fact.ensures {u = tt} step.0 step.1))

pub loop-element-preserved : goal.loop-element-preserved
loop-element-preserved c = λ k say.
    let l = c.loop-element.invariant k say in
    let e = c.in-Some.element in
    let next : IsFirst e c.next.new.self (after_blanks l.content) = subst (λ (o : Option held.Element). NextIs c.next.new.self (after_blanks l.content) (Ok o)) c.in-Some.is ((c.in_ok-element.ensures {u = tt}).next l.content l.say) in
    let step = all-left-first is_fact c.loop-element.elements c.next.new.self k l e next in
    step.2 (c.in_ok-check_fact.ensures {u = tt} step.0 step.1)

pub returns : goal.returns
returns c = λ k say.
    let l = c.loop-element.invariant k say in
    let is : c.in_ok-element.field-0 ≡ None = grind arith in
    let next : after_blanks l.content ≡ Elements.Nothing = subst (λ (o : Option held.Element). NextIs c.next.new.self (after_blanks l.content) (Ok o)) is ((c.in_ok-element.ensures {u = tt}).next l.content l.say) in
    all-left-none is_fact c.loop-element.elements c.next.new.self k l next
