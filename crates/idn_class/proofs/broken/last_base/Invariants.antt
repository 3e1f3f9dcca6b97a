use Rattle.std.proofs.Common.{◌≡◌, ◌≤◌, length}
use Rattle.idn_class.specs.Causes.{last_base}
use Rattle.idn_class.proofs.broken.last_base.Given as goal

abbrev pub invariant-loop-end : goal.invariant-loop-end
invariant-loop-end l = record { within : l.end ≤ length l.label; last : last_base l.properties l.label (length l.label) ≡ last_base l.properties l.label l.end }

abbrev pub decreases-loop-end : goal.decreases-loop-end
decreases-loop-end l = l.end
