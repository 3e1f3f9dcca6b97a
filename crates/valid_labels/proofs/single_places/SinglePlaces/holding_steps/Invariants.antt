use Rattle.std.proofs.Common.{map}
use Rattle.label_patterns.specs.Trees.{pattern}
use Rattle.valid_labels.specs.declared.cutting.SingleSteps.{SingleSteps}
use Rattle.valid_labels.specs.inner.Singles.{AreHoldingSteps}
use Rattle.valid_labels.proofs.single_places.SinglePlaces.holding_steps.Given as goal

-- what is known by the rules so far
abbrev pub invariant-loop-number : goal.invariant-loop-number
invariant-loop-number l = (let steps : SingleSteps = record { known = l.known; leading = l.leading } in AreHoldingSteps (map pattern l.rules) l.seen l.self steps)
