use Rattle.std.proofs.Common.{◌≡◌, subst, refl, ◌∙◌}
use Rattle.variant_table.specs.declared.version.Version.TheVariants.{Three}
use Rattle.variant_table.specs.Entries.{TableValue}
use Rattle.idn2_cli.specs.declared.modes.dispositions.DecidedBy.{DecidedBy}
use Rattle.idn2_cli.specs.declared.modes.dispositions.DecidedBy.TheVariants.{Version1, Nothing, Rules, Blocked, Readings}
use Rattle.idn2_cli.specs.inner.Dispositions.{IsDecidedBy}
use Rattle.idn2_cli.proofs.AppearanceLemmas.{appears-as_label, appears-in_version_1, appears-itself, appears-undecided}
use Rattle.idn2_cli.proofs.modes.dispositions.Dispositions.of_own.Goals as goal

-- what is left is of a ruleset
left : (table : TableValue) (by : DecidedBy) → (by ≡ Version1 → ⊥) → (by ≡ Nothing → ⊥) → (by ≡ Blocked → ⊥) → IsDecidedBy table by → table.version ≡ Three
left table Version1 first free blocked is = absurd (first refl)
left table Nothing first free blocked is = absurd (free refl)
left table Rules first free blocked is = is.0
left table Blocked first free blocked is = absurd (blocked refl)
left table Readings first free blocked is = is.0

pub returns-in-Version1 : goal.returns-in-Version1
returns-in-Version1 c = λ table label sound some of own. appears-in_version_1 table label label (subst (IsDecidedBy table) c.in-Version1.is of.by)

pub returns-in-Nothing : goal.returns-in-Nothing
returns-in-Nothing c = λ table label sound some of own. appears-undecided table label label (subst (IsDecidedBy table) c.in-Nothing.is of.by)

pub returns-in-Blocked : goal.returns-in-Blocked
returns-in-Blocked c = λ table label sound some of own. appears-as_label table label (subst (IsDecidedBy table) c.in-Blocked.is of.by).0

pub returns-in_default : goal.returns-in_default
returns-in_default c = λ table label sound some of own.
    c.appearance_of.ensures
    ∙ appears-itself table label c.args.own sound some (left table c.args.self.now.by c.in_default.not-Version1 c.in_default.not-Nothing c.in_default.not-Blocked of.by) own
