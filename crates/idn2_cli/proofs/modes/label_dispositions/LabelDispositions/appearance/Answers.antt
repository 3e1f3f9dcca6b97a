use Rattle.std.proofs.Common.{subst, sym, ap, ◌∙◌}
use Rattle.idn2_cli.specs.inner.Dispositions.{IsDecidedBy, Listing, appearance}
use Rattle.idn2_cli.proofs.AppearanceLemmas.{appears-in_version_1, appears-undecided}
use Rattle.idn2_cli.proofs.modes.label_dispositions.LabelDispositions.appearance.Goals as goal

pub returns-in-Version1-clause-told : goal.returns-in-Version1-clause-told
returns-in-Version1-clause-told g c =
    let table = c.self.inside.table.now in
    let label = c.self.inside.label.now in
    let by = subst (IsDecidedBy table) (sym c.by.ensures ∙ c.in-Version1.is) c.self.invariant.2.by in
    appears-in_version_1 table label c.args.variant.now by ∙ ap (λ (of : Listing). appearance of.table of.label c.args.variant.now) c.self.view_is

pub returns-in-Nothing-clause-told : goal.returns-in-Nothing-clause-told
returns-in-Nothing-clause-told g c =
    let table = c.self.inside.table.now in
    let label = c.self.inside.label.now in
    let by = subst (IsDecidedBy table) (sym c.by.ensures ∙ c.in-Nothing.is) c.self.invariant.2.by in
    appears-undecided table label c.args.variant.now by ∙ ap (λ (of : Listing). appearance of.table of.label c.args.variant.now) c.self.view_is
