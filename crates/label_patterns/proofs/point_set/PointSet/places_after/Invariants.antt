use Rattle.label_patterns.specs.Sets.{is_in}
use Rattle.label_patterns.proofs.PlaceLemmas.{ArePlacesBelow}
use Rattle.label_patterns.proofs.point_set.PointSet.places_after.Given as goal

-- the places so far
abbrev pub invariant-loop-place : goal.invariant-loop-place
invariant-loop-place l = ArePlacesBelow (is_in l.self) l.label l.place l.found
