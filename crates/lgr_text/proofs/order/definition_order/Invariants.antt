use Rattle.std.proofs.Common.{map, length}
use Rattle.lgr_text.specs.DefinitionOrder.{IsOrdered}
use Rattle.lgr_text.proofs.OrderLemmas.{left}
use Rattle.lgr_text.proofs.order.definition_order.Given as goal

-- the order so far
abbrev pub invariant-loop-number : goal.invariant-loop-number
invariant-loop-number l = IsOrdered (map (λ p. p.items) l.parts.items) l.order.items

abbrev pub decreases-loop-number : goal.decreases-loop-number
decreases-loop-number l = left (length l.parts.items) l.order.items
