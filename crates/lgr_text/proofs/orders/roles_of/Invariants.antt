use Rattle.std.proofs.Common.{◌≡◌, map, take}
use Rattle.lgr_text.specs.Orders.{item}
use Rattle.lgr_text.proofs.orders.roles_of.Given as goal

abbrev pub invariant-loop-item : goal.invariant-loop-item
invariant-loop-item l = l.roles.items ≡ map (λ i. i.role) (map item (take l.item-index l.items))
