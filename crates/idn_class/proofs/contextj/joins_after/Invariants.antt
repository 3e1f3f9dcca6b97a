use Rattle.std.proofs.Common.{◌≡◌, ℕ, ◌<◌}
use Rattle.idn_class.specs.declared.joining_type.JoiningType.TheVariants.{Transparent}
use Rattle.idn_class.specs.ContextJ.{type_at}
use Rattle.idn_class.proofs.contextj.joins_after.Given as goal

abbrev pub invariant-loop-place : goal.invariant-loop-place
invariant-loop-place l = (k : ℕ) → l.joiner < k → k < l.place → type_at l.properties l.label k ≡ Transparent
