use Rattle.std.proofs.Common.{ℕ, ◌<◌}
use Rattle.idn_class.specs.ContextJ.{JoinerPasses}
use Rattle.idn_class.proofs.contextj.misplaced_joiner.Given as goal

abbrev pub invariant-loop-place : goal.invariant-loop-place
invariant-loop-place l = (k : ℕ) → k < l.place → JoinerPasses l.properties l.label k
