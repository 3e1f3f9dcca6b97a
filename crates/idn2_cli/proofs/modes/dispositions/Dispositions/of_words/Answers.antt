use Rattle.std.proofs.Common.{◌≡◌, ap, subst, refl, ◌∙◌}
use Rattle.std.specs.Prelude.{false, List, Some}
use Rattle.variant_dispositions.specs.declared.action.Action.{Action}
use Rattle.variant_dispositions.specs.Readings.{IsTold}
use Rattle.variant_list.specs.Substitutions.{substitutions_of}
use Rattle.answer_json.specs.declared.block.Disposition.{Disposition}
use Rattle.idn2_cli.specs.declared.modes.dispositions.Appearance.{Appearance}
use Rattle.idn2_cli.specs.declared.modes.dispositions.Appearance.TheVariants.{Listed}
use Rattle.idn2_cli.specs.declared.modes.dispositions.DecidedBy.{DecidedBy}
use Rattle.idn2_cli.specs.declared.modes.dispositions.DecidedBy.TheVariants.{Version1, Nothing, Rules, Blocked, Readings}
use Rattle.idn2_cli.specs.inner.Dispositions.{IsDecidedBy, asks_readings}
use Rattle.idn2_cli.proofs.AppearanceLemmas.{appears-by_blocked, appears-by_readings}
use Rattle.idn2_cli.proofs.modes.dispositions.Dispositions.of_words.Goals as goal

-- what is left makes no difference by readings
free : (by : DecidedBy) → (by ≡ Blocked → ⊥) → (by ≡ Readings → ⊥) → asks_readings by ≡ false
free Version1 blocked readings = refl
free Nothing blocked readings = refl
free Rules blocked readings = refl
free Blocked blocked readings = absurd (blocked refl)
free Readings blocked readings = absurd (readings refl)

pub without_readings-requires : goal.without_readings-requires
without_readings-requires g c = free c.args.self.now.by c.in_default.not-Blocked c.in_default.not-Readings

pub returns-in-Blocked : goal.returns-in-Blocked
returns-in-Blocked g c = λ table label v sound of rules other spells words.
    let by = subst (IsDecidedBy table) c.in-Blocked.is of.by in
    ap (λ (d : Disposition). let a : Appearance = Listed (Some d) in a) c.allocation.ensures
    ∙ appears-by_blocked table label v c.args.words.has c.args.words.lacks c.is_allocatable_in_some-is_allocatable.result sound by.0 by.1 other words c.is_allocatable_in_some-is_allocatable.ensures.lacks

pub returns-in-Readings : goal.returns-in-Readings
returns-in-Readings g c = λ table label v sound of rules other spells words.
    let by = subst (IsDecidedBy table) c.in-Readings.is of.by in
    let told = subst (λ (xs : List Action). IsTold (g.R.LabelRules.matched c.args.rules.now) xs (substitutions_of table label) v c.disposition_of_words.result) c.deref.ensures.value
    (c.disposition_of_words.ensures (substitutions_of table label) v spells words) in
    c.appearance_told.ensures
    ∙ appears-by_readings table label v (g.R.LabelRules.matched c.args.rules.now) c.args.self.now.actions.items c.disposition_of_words.result sound by.0 by.1 other of.actions rules spells told

pub returns-in_default : goal.returns-in_default
returns-in_default g c = λ table label v sound of rules other spells words. c.without_readings.ensures table label v of rules
