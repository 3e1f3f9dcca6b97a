use Rattle.std.proofs.Common.{◌≡◌, ◌+◌, drop, length, Some, None, sym, ap, ◌∙◌}
use Rattle.std.specs.Option.{option_or}
use Rattle.std.proofs.lemmas.List.{length-map}
use Rattle.lgr_text.specs.DefinitionOrder.{undefined_among}
use Rattle.lgr_text.proofs.OrderLemmas.{all_of, items_of, undefined-step}
use Rattle.lgr_text.proofs.order.first_undefined.Goals as goal

pub loop-named-init : goal.loop-named-init
loop-named-init c = ap (λ n. undefined_among n (all_of c.args.parts.now)) (sym (length-map c.args.parts.now items_of))

pub returns-in-Some : goal.returns-in-Some
returns-in-Some c =
    let ps = c.args.parts.now in
    let i = c.loop-named.named-index in
    let this = c.named-item.result in
    let found : undefined_among (length ps) this.items ≡ Some c.in-Some.line =
    ap (undefined_among (length ps)) (sym c.deref.ensures.value) ∙ sym c.undefined_among.ensures ∙ c.in-Some.is in
    sym (ap (λ o. option_or o (undefined_among (length ps) (all_of (drop (i + 1) ps)))) found)
    ∙ sym (undefined-step (length ps) ps i this c.loop-named-test.true c.named-item.is) ∙ c.loop-named.invariant

pub loop-named-preserved : goal.loop-named-preserved
loop-named-preserved c =
    let ps = c.args.parts.now in
    let i = c.loop-named.named-index in
    let this = c.named-item.result in
    let none : undefined_among (length ps) this.items ≡ None =
    ap (undefined_among (length ps)) (sym c.deref.ensures.value) ∙ sym c.undefined_among.ensures ∙ c.in_default.is in
    sym (ap (λ o. option_or o (undefined_among (length ps) (all_of (drop (i + 1) ps)))) none)
    ∙ sym (undefined-step (length ps) ps i this c.loop-named-test.true c.named-item.is) ∙ c.loop-named.invariant
