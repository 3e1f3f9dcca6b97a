use Rattle.std.proofs.Common.{◌≡◌, ℕ, ◌≤◌, false, take}
use Rattle.variant_list.proofs.filter.Filter.shortest_hopeless.Given as goal

abbrev pub invariant-loop-index : goal.invariant-loop-index
invariant-loop-index g l = (k : ℕ) → 1 ≤ k → k ≤ l.index → g.Self.Filter.dead l.self (take k l.label) ≡ false
