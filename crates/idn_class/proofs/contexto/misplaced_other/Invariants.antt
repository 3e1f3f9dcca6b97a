use Rattle.std.proofs.Common.{ℕ, ◌<◌}
use Rattle.idn_class.specs.ContextO.{OtherPasses}
use Rattle.idn_class.proofs.contexto.misplaced_other.Given as goal

abbrev pub invariant-loop-place : goal.invariant-loop-place
invariant-loop-place l = (k : ℕ) → k < l.place → OtherPasses l.label k
