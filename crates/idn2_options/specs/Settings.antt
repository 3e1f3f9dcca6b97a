-- The options of a run, as contracts see them.
use Rattle.std.specs.Prelude.{◌≡◌, ◌≢◌, ◌⊎◌, ◌≤◌, ℕ, Bool, true, false, ◌||◌, List, [], Option, None, IfSome, length}
use Rattle.idn_text.specs.Points.{AreScalarValues}
use Rattle.idn_class.specs.declared.properties.Properties.{Properties}
use Rattle.idn2_options.specs.declared.command_line.form.Form.{Form}
use Rattle.idn2_options.specs.declared.command_line.form.Form.TheVariants.{Plain, Json}
use Rattle.variant_table.specs.declared.version.Notation.{Notation}
use Rattle.variant_table.specs.declared.version.Notation.TheVariants.{Table, Ruleset}
use Rattle.idn2_options.specs.declared.command_line.mode.Mode.{Mode}
use Rattle.idn2_options.specs.declared.command_line.mode.Mode.TheVariants.{Variants, Jump, CheckTable, PrintTable}

-- an `Options`, with the bytes of each text; and the registered labels among which labels are asked, if there are
-- some. An `Options` has only the name of their file: they are given to a run beside it
pub record Settings : Type 0 where
  pub mode : Mode
  pub std3 : Bool
  pub properties : Properties
  pub explain : Bool
  pub form : Form
  pub file : List ℕ
  pub notation : Notation
  pub strings : List (List ℕ)
  pub after : List ℕ
  pub limit : Option ℕ
  pub tries : ℕ
  pub steps : Option ℕ
  pub among : Option (List ℕ)
  pub others : Bool
  pub registered : Option (List (List ℕ))

-- the same options, with listings kept to these labels; or whole, where there are none
abbrev pub keeping : Option (List (List ℕ)) → Settings → Settings
keeping labels o = record o { registered = labels }

-- the form is that of objects
abbrev pub is_json : Form → Bool
is_json Plain = false
is_json Json = true

-- the cause of a refusal is told: it is asked for, or refusals are objects
abbrev pub tells_causes : Settings → Bool
tells_causes o = o.explain || is_json o.form

-- a number that `--limit` and `--tries` take
abbrev pub IsCount : ℕ → Type 0
IsCount n = (1 ≤ n) × (n ≤ 1000000000)

-- a number that `--steps` takes
abbrev pub IsBound : ℕ → Type 0
IsBound n = (2 ≤ n) × (n ≤ 1000000000000000000)

-- the options are within the limits of a run
pub record IsWithinLimits (o : Settings) : Type 0 where
  pub after_length : length o.after ≤ 1024
  pub after_points : AreScalarValues o.after
  pub limit : IfSome o.limit IsCount
  pub tries : IsCount o.tries
  pub steps : IfSome o.steps IsBound

-- what belongs to another mode is as if it were left out
pub record SuitsMode (o : Settings) : Type 0 where
  pub bounds : o.mode ≢ Variants → (o.after ≡ []) × (o.limit ≡ None) × (o.tries ≡ 1000000) × (o.steps ≡ None)
  pub among : o.mode ≢ Variants → o.among ≡ None
  pub others : o.among ≡ None → o.others ≡ false
  pub untried : o.among ≢ None → (o.tries ≡ 1000000) × (o.steps ≡ None)
  pub file : o.mode ≢ Variants → o.mode ≢ Jump → o.mode ≢ CheckTable → o.mode ≢ PrintTable
      → (o.file ≡ []) × (o.notation ≡ Table)
  pub strings : (o.mode ≡ CheckTable) ⊎ (o.mode ≡ PrintTable) → o.strings ≡ []
  pub printed : o.mode ≡ PrintTable → (o.notation ≡ Ruleset) × (o.form ≡ Plain)
