use Rattle.std.proofs.Common.{◌≡◌, ap, subst, refl, ◌∙◌, arith}
use Rattle.std.specs.Prelude.{false, true, List, Some}
use Rattle.variant_dispositions.specs.declared.action.Action.{Action}
use Rattle.variant_dispositions.specs.declared.variant.VariantDisposition.TheVariants.{Clear}
use Rattle.variant_dispositions.specs.Actions.{disposition}
use Rattle.variant_dispositions.specs.Kinds.{kinds_in}
use Rattle.variant_dispositions.specs.Kinds.Kind.{Unmapped}
use Rattle.variant_dispositions.proofs.OneKindLemmas.{kinds_in-one}
use Rattle.idn2_cli.specs.declared.modes.dispositions.DecidedBy.{DecidedBy}
use Rattle.idn2_cli.specs.declared.modes.dispositions.DecidedBy.TheVariants.{Version1, Nothing, Rules, Blocked, Readings}
use Rattle.idn2_cli.specs.inner.Dispositions.{IsDecidedBy, appearance_by, asks_readings}
use Rattle.idn2_cli.proofs.AppearanceLemmas.{appears-by_rules, appears-in_version_1, appears-undecided}
use Rattle.idn2_cli.proofs.modes.dispositions.Dispositions.without_readings.Goals as goal

-- what is left where readings make no difference
left : (by : DecidedBy) → (by ≡ Version1 → ⊥) → (by ≡ Rules → ⊥) → asks_readings by ≡ false → by ≡ Nothing
left Version1 first rules none = absurd (first refl)
left Nothing first rules none = refl
left Rules first rules none = absurd (rules refl)
left Blocked first rules none = let clash : true ≡ false = none in cc
left Readings first rules none = let clash : true ≡ false = none in cc

pub returns-in-Version1 : goal.returns-in-Version1
returns-in-Version1 g c = λ table label v of rules. appears-in_version_1 table label v (subst (IsDecidedBy table) c.in-Version1.is of.by)

pub returns-in-Rules : goal.returns-in-Rules
returns-in-Rules g c = λ table label v of rules.
    let by = subst (IsDecidedBy table) c.in-Rules.is of.by in
    let kinds = kinds_in-one Unmapped 1 (omega arith) refl in
    c.appearance_of.ensures
    ∙ ap (λ d. appearance_by (Some (Clear d))) (
    c.disposition_of.ensures
    ∙ ap (λ (xs : List Action). disposition (g.R.LabelRules.matched c.args.rules.now) xs (kinds_in 1)) c.deref.ensures.value
    ∙ ap (disposition (g.R.LabelRules.matched c.args.rules.now) c.args.self.now.actions.items) kinds
    )
    ∙ appears-by_rules table label v (g.R.LabelRules.matched c.args.rules.now) c.args.self.now.actions.items by.0 by.1 of.actions rules

pub returns-in_default : goal.returns-in_default
returns-in_default g c = λ table label v of rules.
    appears-undecided table label v (subst (IsDecidedBy table) (left c.args.self.now.by c.in_default.not-Version1 c.in_default.not-Rules c.requires) of.by)
