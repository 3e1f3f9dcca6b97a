-- What tells the dispositions of the labels that a label spells.
use Rattle.std.specs.Prelude.{◌≡◌, ◌⊎◌, ℕ, Bool, true, false, List, [], if◌then◌else◌}
use Rattle.std.specs.List.{AllByRecursion}
use Rattle.std.specs.Prelude.{Option, Some, None}
use Rattle.reading_kinds.specs.Readings.{Substitution}
use Rattle.variant_table.specs.declared.version.Version.{Version}
use Rattle.variant_table.specs.declared.version.Version.TheVariants.{One, Two, Three}
use Rattle.variant_table.specs.Entries.{TableValue, has_types}
use Rattle.valid_labels.specs.Actions.{actions_of, matches_rule}
use Rattle.variant_dispositions.specs.declared.action.Action.{Action}
use Rattle.variant_dispositions.specs.declared.variant.VariantDisposition.{VariantDisposition}
use Rattle.variant_list.specs.Substitutions.{substitutions_of}
use Rattle.answer_json.specs.declared.block.Disposition.{Disposition}
use Rattle.idn2_options.specs.Settings.{Settings}
use Rattle.idn2_answers.specs.Dispositions.{allocation_of, disposition_in, is_invalid, is_left_out_in}
use Rattle.idn2_answers.specs.Listings.{Filter, block_to, stop_of, variant_by, variants_after}
use Rattle.idn2_answers.specs.Said.{Said}
use Rattle.idn2_cli.specs.declared.modes.dispositions.Appearance.{Appearance}
use Rattle.idn2_cli.specs.declared.modes.dispositions.Appearance.TheVariants.{LeftOut, Listed}
use Rattle.idn2_cli.specs.declared.modes.dispositions.DecidedBy.{DecidedBy}
use Rattle.idn2_cli.specs.declared.modes.dispositions.DecidedBy.TheVariants.{Version1, Nothing, Rules, Blocked}
use Rattle.idn2_cli.specs.declared.modes.dispositions.DecidedBy.TheVariants.{Readings}
use Rattle.idn2_cli.specs.declared.modes.dispositions.Dispositions.{Dispositions}

-- the block of a label that spells these, by what is asked of them and by the dispositions of its variants
abbrev pub block_by : Filter → (List ℕ → Option Disposition) → Settings → List (List ℕ) → List Said
block_by filter field o labels = block_to (variant_by field) (stop_of filter o labels) (variants_after filter o labels)

-- how v appears in the listing of the label
abbrev pub appearance_in : Version → TableValue → (label v : List ℕ) → Appearance
appearance_in version table label v =
    if is_left_out_in version table label v then LeftOut else Listed (disposition_in version table label v)

abbrev pub appearance : TableValue → (label v : List ℕ) → Appearance
appearance table = appearance_in table.version table

-- the same in a ruleset, by what is told of v
abbrev pub appearance_by : Option VariantDisposition → Appearance
appearance_by told = if is_invalid told then LeftOut else Listed (Some (allocation_of told))

-- ---- of a table

-- this decides the dispositions of its variants
abbrev pub IsDecidedBy : TableValue → DecidedBy → Type 0
IsDecidedBy table Version1 = table.version ≡ One
IsDecidedBy table Nothing =
    (has_types table.entries ≡ false)
    × ((table.version ≡ Two) ⊎ ((table.version ≡ Three) × (actions_of table.definitions ≡ [])))
IsDecidedBy table Rules = (table.version ≡ Three) × (has_types table.entries ≡ false)
IsDecidedBy table Blocked = (table.version ≡ Two) × (has_types table.entries ≡ true)
IsDecidedBy table Readings = (table.version ≡ Three) × (has_types table.entries ≡ true)

-- what tells the dispositions is that of the table
pub record AreOfTable (table : TableValue) (d : Dispositions) : Type 0 where
  pub actions : d.actions.items ≡ actions_of table.definitions
  pub by : IsDecidedBy table d.by

-- what the readings of a label record makes a difference
abbrev pub asks_readings : DecidedBy → Bool
asks_readings Version1 = false
asks_readings Nothing = false
asks_readings Rules = false
asks_readings Blocked = true
asks_readings Readings = true

-- the rules that v matches, as far as these actions ask for rules
abbrev pub AreRulesFor : List Action → (those matched : ℕ → Bool) → Type 0
AreRulesFor actions those matched = (matched ≡ those) ⊎ AllByRecursion (λ action. action.condition ≡ None) actions

-- those that v matches under the table
abbrev pub AreRulesOf : TableValue → (v : List ℕ) → (ℕ → Bool) → Type 0
AreRulesOf table v matched = AreRulesFor (actions_of table.definitions) (matches_rule table v) matched

-- ---- of a label

-- whose variants are asked: those of a label under a table
pub record Listing : Type 0 where
  pub table : TableValue
  pub label : List ℕ

-- the readings of the label are at hand, where they make a difference
abbrev pub HasReadings : TableValue → List ℕ → DecidedBy → Option (List (List Substitution)) → Type 0
HasReadings table label by None = asks_readings by ≡ false
HasReadings table label by (Some readings) = (asks_readings by ≡ true) × (readings ≡ substitutions_of table label)
