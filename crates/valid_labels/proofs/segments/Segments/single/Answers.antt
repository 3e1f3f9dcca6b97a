use Rattle.std.proofs.Common.{◌≡◌, refl, subst}
use Rattle.std.specs.Prelude.{Option}
use Rattle.std.proofs.lemmas.Option.{same_Some}
use Rattle.label_patterns.specs.declared.condition.Condition.{Condition}
use Rattle.valid_labels.specs.inner.Singles.{IsSingle}
use Rattle.valid_labels.proofs.SingleLemmas.{no_single-point, single-point}
use Rattle.valid_labels.proofs.segments.Segments.single.Goals as goal

pub returns-in-Some : goal.returns-in-Some
returns-in-Some c =
    let table = c.self.inside.table.now in
    let e = c.in-Some.entry in
    let asked : e.condition ≡ c.condition.result = same_Some e.condition c.condition.result c.condition.ensures in
    (refl, subst (λ t. IsSingle t c.args.point c.condition.result) c.self.view_is (subst (IsSingle table c.args.point) asked (single-point table c.args.point e c.len-entries.ensures.well_formed c.in-Some.ensures)))

pub returns-in-None : goal.returns-in-None
returns-in-None c = subst (λ t. (d : Option Condition) → ¬ IsSingle t c.args.point d) c.self.view_is (no_single-point c.self.inside.table.now c.args.point c.in-None.ensures)
