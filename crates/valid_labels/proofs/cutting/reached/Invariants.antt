use Rattle.valid_labels.specs.inner.Steps.{SourceIs}
use Rattle.valid_labels.proofs.ReachedLemmas.{IsFound}
use Rattle.valid_labels.proofs.cutting.reached.Given as goal

-- the places that were found so far
abbrev pub invariant-loop-place : goal.invariant-loop-place
invariant-loop-place g l = IsFound (SourceIs (g.A.SourcePredicate.asks l.predicate) l.table.entries l.label) l.place l.found
