use Rattle.std.proofs.Common.{◌≡◌, ◌∷◌, [], List, None, Ok, Option, map, sym, ap, ◌∙◌, subst, arith}
use Rattle.std.proofs.lemmas.List.{map-append}
use Rattle.std.proofs.lemmas.Result.{err_from_is_err_and}
use Rattle.lgr_text.specs.declared.element.Element as held
use Rattle.lgr_text.specs.Elements
use Rattle.lgr_text.specs.Elements.{each_element}
use Rattle.lgr_text.specs.Entries.{variant_of}
use Rattle.lgr_text.specs.Records as records
use Rattle.lgr_text.specs.inner.Reading.{IsFirst, NextIs, after_blanks, node}
use Rattle.lgr_text.proofs.LoopLemmas.{Left, left-init, left-first, left-none, left-text}
use Rattle.lgr_text.proofs.PassLemmas.{next-fails, fails-fails}
use Rattle.lgr_text.proofs.entries.read_variants.Goals as goal

pub loop-variants-init : goal.loop-variants-init
loop-variants-init c = λ k say.
    subst (λ (l : List _). Left variant_of (map records.variant l) c.args.elements k) (sym c.new-variants.ensures.items) (left-init variant_of c.args.elements k say)

pub returns-in_err-element : goal.returns-in_err-element
returns-in_err-element c = λ k say.
    let l = c.loop-variants.invariant k say in
    let p = err_from_is_err_and c.from_residual.result c.from_residual.ensures.1 in
    rw (p.1, p.2) (next-fails (each_element variant_of k) _ c.next.new.self (after_blanks l.content)
    (λ h. left-text variant_of (map records.variant c.loop-variants.variants.items) c.loop-variants.elements c.next.new.self k l h) ((c.in_err-element.ensures {u = tt}).next l.content l.say))

pub returns-in_err-read_variant : goal.returns-in_err-read_variant
returns-in_err-read_variant c = λ k say.
    let l = c.loop-variants.invariant k say in
    let e = c.in-Some.element in
    let next : IsFirst e c.next.new.self (after_blanks l.content) = subst (λ (o : Option held.Element). NextIs c.next.new.self (after_blanks l.content) (Ok o)) c.in-Some.is ((c.in_ok-element.ensures {u = tt}).next l.content l.say) in
    let step = left-first variant_of (map records.variant c.loop-variants.variants.items) c.loop-variants.elements c.next.new.self k l e next in
    let p = err_from_is_err_and c.from_residual-in_err-read_variant.result c.from_residual-in_err-read_variant.ensures.1 in
    rw (p.1, p.2) (fails-fails (variant_of (node e step.0)) (each_element variant_of k) _ step.3 (c.in_err-read_variant.ensures {u = tt} step.0 step.1))

pub loop-variants-preserved : goal.loop-variants-preserved
loop-variants-preserved c = λ k say.
    let l = c.loop-variants.invariant k say in
    let e = c.in-Some.element in
    let next : IsFirst e c.next.new.self (after_blanks l.content) = subst (λ (o : Option held.Element). NextIs c.next.new.self (after_blanks l.content) (Ok o)) c.in-Some.is ((c.in_ok-element.ensures {u = tt}).next l.content l.say) in
    let step = left-first variant_of (map records.variant c.loop-variants.variants.items) c.loop-variants.elements c.next.new.self k l e next in
    let x = records.variant c.in_ok-read_variant.field-0 in
    let now = step.2 x (c.in_ok-read_variant.ensures {u = tt} step.0 step.1) in
    let pushed = (c.in_ok-push.ensures {u = tt}).items in
    let more = map-append records.variant c.loop-variants.variants.items (c.in_ok-read_variant.field-0 ∷ []) in
    subst (λ (vs : List records.Variant). Left variant_of vs c.next.new.self k) (sym (ap (map records.variant) pushed ∙ more)) now

pub returns : goal.returns
returns c = λ k say.
    let l = c.loop-variants.invariant k say in
    let is : c.in_ok-element.field-0 ≡ None = grind arith in
    let next : after_blanks l.content ≡ Elements.Nothing = subst (λ (o : Option held.Element). NextIs c.next.new.self (after_blanks l.content) (Ok o)) is ((c.in_ok-element.ensures {u = tt}).next l.content l.say) in
    left-none variant_of (map records.variant c.loop-variants.variants.items) c.loop-variants.elements c.next.new.self k l next
