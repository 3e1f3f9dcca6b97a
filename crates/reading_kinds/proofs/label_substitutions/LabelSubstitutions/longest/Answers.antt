use Rattle.std.proofs.Common.{sym, subst}
use Rattle.std.specs.Prelude.{Contains}
use Rattle.reading_kinds.specs.Readings.{substitutions_at}
use Rattle.reading_kinds.proofs.KeptLemmas.{length-longest}
use Rattle.reading_kinds.proofs.label_substitutions.LabelSubstitutions.longest.Goals as goal

pub returns : goal.returns
returns c place u h =
    length-longest c.self.inside.points.items c.self.inside.substitutions.items c.self.inside.places.items c.self.inside.longest c.self.invariant place u (subst (λ v. Contains (substitutions_at v place) u) (sym c.self.view_is) h)
