use Rattle.std.proofs.Common.{arith}
use Rattle.label_patterns.proofs.seen_label.SeenLabel.places_of_all.Goals as goal

pub returns-clause-below : goal.returns-clause-below
returns-clause-below c h = let inside = (c.point_places.ensures 63).0 h in omega (arith, inside, c.self.invariant.0)
