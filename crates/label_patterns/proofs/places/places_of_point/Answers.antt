use Rattle.std.proofs.Common.{eqb, arith}
use Rattle.label_patterns.proofs.PlaceLemmas.{no-places, more-places, all-places}
use Rattle.label_patterns.proofs.places.places_of_point.Goals as goal

pub loop-place-init : goal.loop-place-init
loop-place-init c = no-places (λ d. eqb d c.args.point) c.args.label.now

pub loop-place-preserved : goal.loop-place-preserved
loop-place-preserved c =
    more-places (λ d. eqb d c.args.point) c.args.label.now c.loop-place.place c.loop-place.places c.with_place_if-places.result c.loop-place.invariant c.with_place_if-places.ensures

pub returns : goal.returns
returns c = all-places (λ d. eqb d c.args.point) c.args.label.now c.loop-place.place c.loop-place.places (omega arith) c.loop-place.invariant
