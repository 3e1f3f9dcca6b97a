use Rattle.std.proofs.Common.{◌≡◌, [], ◌∷◌, ◌++◌, map, sym, ap, ◌∙◌}
use Rattle.std.proofs.lemmas.List.{map-append}
use Rattle.label_patterns.specs.Trees.{pattern}
use Rattle.lgr_text.specs.inner.Items.{in_sequence}
use Rattle.lgr_text.proofs.ItemLemmas.{sequence-step}
use Rattle.lgr_text.proofs.part_items.sequence_of.Goals as goal

pub loop-item-preserved : goal.loop-item-preserved
loop-item-preserved c =
    let before = map pattern c.pop-in-loop-item.new.self.items in
    let items : map pattern c.loop-item.items.items ≡ before ++ pattern c.in-Some-pop.item ∷ [] =
    ap (map pattern) c.in-Some-pop.ensures.items ∙ map-append pattern c.pop-in-loop-item.new.self.items (c.in-Some-pop.item ∷ []) in
    ap (λ p. in_sequence (before ++ p ∷ [])) c.in_ok-tree.ensures
    ∙ sym (sequence-step before (pattern c.in-Some-pop.item) (pattern c.loop-item.tree))
    ∙ ap (λ l. in_sequence (l ++ pattern c.loop-item.tree ∷ [])) (sym items)
    ∙ c.loop-item.invariant
