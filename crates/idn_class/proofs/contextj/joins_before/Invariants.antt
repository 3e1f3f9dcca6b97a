use Rattle.std.proofs.Common.{◌≡◌, ℕ, ◌<◌, ◌≤◌}
use Rattle.idn_class.specs.declared.joining_type.JoiningType.TheVariants.{Transparent}
use Rattle.idn_class.specs.ContextJ.{type_at}
use Rattle.idn_class.proofs.contextj.joins_before.Given as goal

abbrev pub invariant-loop-end : goal.invariant-loop-end
invariant-loop-end l = record { below : l.end ≤ l.joiner; clear : (k : ℕ) → l.end ≤ k → k < l.joiner → type_at l.properties l.label k ≡ Transparent }

abbrev pub decreases-loop-end : goal.decreases-loop-end
decreases-loop-end l = l.end
