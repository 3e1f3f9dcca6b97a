use Rattle.std.proofs.Common.{◌≡◌, [], ◌∷◌, ◌++◌, map, sym, ap, ◌∙◌}
use Rattle.std.proofs.lemmas.List.{map-append}
use Rattle.lgr_text.specs.Nested.{nested}
use Rattle.lgr_text.specs.Orders.{Item, item, together}
use Rattle.lgr_text.specs.Records.{part}
use Rattle.lgr_text.proofs.NestedLemmas.{nested-step}
use Rattle.lgr_text.proofs.element.Element.in_order.Goals as goal

pub loop-item-preserved : goal.loop-item-preserved
loop-item-preserved c =
    let both = together c.args.order in
    let part_in = λ (i : Item). i.part in
    let left = c.pop-in-loop-item.new.self.items in
    let last = c.in-Some-pop.item in
    let before = map part_in (map item left) in
    let items : map part_in (map item c.loop-item.items.items) ≡ before ++ part last.part ∷ [] =
    ap (λ l. map part_in (map item l)) c.in-Some-pop.ensures.items
    ∙ ap (map part_in) (map-append item left (last ∷ []))
    ∙ map-append part_in (map item left) (item last ∷ []) in
    ap (λ p. nested both (before ++ p ∷ [])) c.in_ok-part.ensures
    ∙ sym (nested-step both before (part last.part) (part c.loop-item.part))
    ∙ ap (λ l. nested both (l ++ part c.loop-item.part ∷ [])) (sym items)
    ∙ c.loop-item.invariant
