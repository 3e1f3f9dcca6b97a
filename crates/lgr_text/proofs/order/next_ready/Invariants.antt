use Rattle.std.proofs.Common.{◌≡◌, ◌<◌, ℕ, false, map}
use Rattle.lgr_text.specs.DefinitionOrder.{is_next}
use Rattle.lgr_text.proofs.order.next_ready.Given as goal

-- it is true of none so far
abbrev pub invariant-loop-number : goal.invariant-loop-number
invariant-loop-number l = (j : ℕ) → j < l.number-counter → is_next (map (λ p. p.items) l.parts) l.order j ≡ false
