use Rattle.std.proofs.Common.{eqb}
use Rattle.label_patterns.proofs.OneLemmas.{no-63}
use Rattle.label_patterns.proofs.seen_label.SeenLabel.places_of_point.Goals as goal

pub returns-clause-below : goal.returns-clause-below
returns-clause-below c = no-63 (λ d. eqb d c.args.point) c.self.inside.label.now c.places_of_point.result c.self.invariant.0 c.places_of_point.ensures
