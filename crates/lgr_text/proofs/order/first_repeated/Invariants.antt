use Rattle.std.proofs.Common.{◌≡◌, ◌<◌, ℕ, false}
use Rattle.lgr_text.specs.DefinitionOrder.{is_repeated}
use Rattle.lgr_text.proofs.order.first_repeated.Given as goal

-- it is true of none so far
abbrev pub invariant-loop-number : goal.invariant-loop-number
invariant-loop-number l = (j : ℕ) → j < l.number → is_repeated l.definitions j ≡ false
