use Rattle.std.proofs.Common.{◌≡◌, ◌++◌, ◌∷◌, [], map, vec_len}
use Rattle.lgr_text.specs.Nested.{nested}
use Rattle.lgr_text.specs.Orders.{item, together}
use Rattle.lgr_text.specs.Records.{part}
use Rattle.lgr_text.proofs.element.Element.in_order.Given as goal

-- the part has those that were taken
abbrev pub invariant-loop-item : goal.invariant-loop-item
invariant-loop-item l =
    nested (together l.order) (map (λ i. i.part) (map item l.items.items) ++ part l.part ∷ []) ≡ nested (together l.order) (map (λ i. i.part) (map item l.fn.items.items))

abbrev pub decreases-loop-item : goal.decreases-loop-item
decreases-loop-item l = vec_len l.items
