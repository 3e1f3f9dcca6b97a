use Rattle.std.proofs.Common.{eqb}
use Rattle.label_patterns.proofs.PlaceLemmas.{ArePlacesBelow}
use Rattle.label_patterns.proofs.places.places_of_point.Given as goal

abbrev pub invariant-loop-place : goal.invariant-loop-place
invariant-loop-place l = ArePlacesBelow (λ c. eqb c l.point) l.label l.place l.places
