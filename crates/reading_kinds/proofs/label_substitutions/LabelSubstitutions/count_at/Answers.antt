use Rattle.std.proofs.Common.{ap, ◌∙◌, sym, subst, ◌<◌, length}
use Rattle.reading_kinds.specs.Readings.{substitutions_at}
use Rattle.reading_kinds.proofs.KeptLemmas.{IsPart-read, length-read}
use Rattle.reading_kinds.proofs.label_substitutions.LabelSubstitutions.count_at.Goals as goal

pub overflow_sub-result : goal.overflow_sub-result
overflow_sub-result c =
    (IsPart-read c.self.inside.points.items c.self.inside.substitutions.items c.self.inside.places.items c.self.inside.longest c.self.invariant c.args.place c.index-part.result.now (subst (λ v. c.args.place < length v) (sym c.self.view_is) c.requires) c.index-part.ensures).in_order

pub returns : goal.returns
returns c =
    sym (ap (λ v. length (substitutions_at v c.args.place)) (sym c.self.view_is)
    ∙ length-read c.self.inside.points.items c.self.inside.substitutions.items c.self.inside.places.items c.self.inside.longest c.self.invariant c.args.place c.index-part.result.now (subst (λ v. c.args.place < length v) (sym c.self.view_is) c.requires) c.index-part.ensures)
