use Rattle.std.proofs.Common.{rules, ◌≡◌, sym, subst, ◌<◌, arith, length}
use Rattle.std.specs.Prelude.{slice_get, Some}
use Rattle.std.proofs.lemmas.Grind.{common_steps}
use Rattle.reading_kinds.specs.declared.label_substitutions.Part.{Part}
use Rattle.reading_kinds.specs.declared.label_substitutions.StoredSubstitution.{StoredSubstitution}
use Rattle.reading_kinds.specs.Readings.{substitutions_at}
use Rattle.reading_kinds.specs.inner.Kept.{substitution_of}
use Rattle.reading_kinds.proofs.KeptLemmas.{IsAt-asked, IsPart-kept, slice_get-asked}
use Rattle.reading_kinds.proofs.label_substitutions.LabelSubstitutions.get.Goals as goal

pub offset_bounds-deref-kept : goal.offset_bounds-deref-kept
offset_bounds-deref-kept c =
    let part : Part = c.index-part.result.now in
    let at = IsAt-asked c.self.inside.points.items c.self.inside.substitutions.items c.self.inside.places.items c.self.inside.longest c.self.invariant c.args.place c.args.number part (subst (λ v. c.args.place < length v) (sym c.self.view_is) c.requires.place) (subst (λ v. c.args.number < length (substitutions_at v c.args.place)) (sym c.self.view_is) c.requires.number) c.index-part.ensures in
    let kept : StoredSubstitution = c.index-kept.result.now in
    let is = IsPart-kept c.self.inside.points.items c.self.inside.substitutions.items c.self.inside.places.items c.self.inside.longest c.self.invariant c.args.place c.args.number part kept at c.index-kept.ensures in
    grind (arith, common_steps, is.in_order, is.within, c.deref.ensures.len)

pub slice_bounds-result-count : goal.slice_bounds-result-count
slice_bounds-result-count c =
    let part : Part = c.index-part.result.now in
    let at = IsAt-asked c.self.inside.points.items c.self.inside.substitutions.items c.self.inside.places.items c.self.inside.longest c.self.invariant c.args.place c.args.number part (subst (λ v. c.args.place < length v) (sym c.self.view_is) c.requires.place) (subst (λ v. c.args.number < length (substitutions_at v c.args.place)) (sym c.self.view_is) c.requires.number) c.index-part.ensures in
    let kept : StoredSubstitution = c.index-kept.result.now in
    (IsPart-kept c.self.inside.points.items c.self.inside.substitutions.items c.self.inside.places.items c.self.inside.longest c.self.invariant c.args.place c.args.number part kept at c.index-kept.ensures).in_order

pub slice_bounds-result-start : goal.slice_bounds-result-start
slice_bounds-result-start c =
    let part : Part = c.index-part.result.now in
    let at = IsAt-asked c.self.inside.points.items c.self.inside.substitutions.items c.self.inside.places.items c.self.inside.longest c.self.invariant c.args.place c.args.number part (subst (λ v. c.args.place < length v) (sym c.self.view_is) c.requires.place) (subst (λ v. c.args.number < length (substitutions_at v c.args.place)) (sym c.self.view_is) c.requires.number) c.index-part.ensures in
    let kept : StoredSubstitution = c.index-kept.result.now in
    let is = IsPart-kept c.self.inside.points.items c.self.inside.substitutions.items c.self.inside.places.items c.self.inside.longest c.self.invariant c.args.place c.args.number part kept at c.index-kept.ensures in
    search (rules, is.in_order)

pub slice_bounds-result-end : goal.slice_bounds-result-end
slice_bounds-result-end c =
    let part : Part = c.index-part.result.now in
    let at = IsAt-asked c.self.inside.points.items c.self.inside.substitutions.items c.self.inside.places.items c.self.inside.longest c.self.invariant c.args.place c.args.number part (subst (λ v. c.args.place < length v) (sym c.self.view_is) c.requires.place) (subst (λ v. c.args.number < length (substitutions_at v c.args.place)) (sym c.self.view_is) c.requires.number) c.index-part.ensures in
    let kept : StoredSubstitution = c.index-kept.result.now in
    let is = IsPart-kept c.self.inside.points.items c.self.inside.substitutions.items c.self.inside.places.items c.self.inside.longest c.self.invariant c.args.place c.args.number part kept at c.index-kept.ensures in
    search (rules, is.within, c.deref.ensures.value, c.deref.ensures.len)

pub returns : goal.returns
returns c =
    let part : Part = c.index-part.result.now in
    let at = IsAt-asked c.self.inside.points.items c.self.inside.substitutions.items c.self.inside.places.items c.self.inside.longest c.self.invariant c.args.place c.args.number part (subst (λ v. c.args.place < length v) (sym c.self.view_is) c.requires.place) (subst (λ v. c.args.number < length (substitutions_at v c.args.place)) (sym c.self.view_is) c.requires.number) c.index-part.ensures in
    let kept : StoredSubstitution = c.index-kept.result.now in
    let found = slice_get-asked c.self.inside.points.items c.self.inside.substitutions.items c.self.inside.places.items c.self.inside.longest c.self.invariant c.args.place c.args.number part kept c.index-part.ensures at c.index-kept.ensures in
    subst (λ xs. slice_get (substitutions_at c.args.self.now c.args.place) c.args.number ≡ Some (substitution_of xs kept)) (sym c.deref.ensures.value)
    (subst (λ v. slice_get (substitutions_at v c.args.place) c.args.number ≡ Some (substitution_of c.self.inside.points.items kept)) c.self.view_is found)
