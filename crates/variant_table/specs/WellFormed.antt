-- Which tables are well-formed.
use Rattle.std.specs.Prelude.{◌≡◌, ◌≢◌, ℕ, ◌<◌, ◌≤◌, IsTrue, Option, Some, None, List, ◌∷◌, length, All, AllPairs}
use Rattle.idn_text.specs.Points.{IsScalarValue}
use Rattle.idn_class.specs.Class.{class_of}
use Rattle.label_patterns.specs.declared.condition.Condition.{Condition}
use Rattle.ruleset_text.specs.Classes.{is_label_class}
use Rattle.ruleset_text.specs.Definitions.{Definitions, nothing_defined, type_names}
use Rattle.ruleset_text.specs.WellFormed.{AreDefinitions}
use Rattle.variant_table.specs.declared.version.Version.{Version}
use Rattle.variant_table.specs.declared.version.Version.TheVariants.{One, Two, Three}
use Rattle.variant_table.specs.Entries.{Variant, Entry, replacements, itself, whole, IsOfVersion, TableValue}
use Rattle.variant_table.specs.Canonical.{table_text}
use Rattle.variant_table.specs.Limits.{text_limit, entry_limit}
use Rattle.idn_class.specs.declared.properties.Properties.{Properties}
use Rattle.idn_class.specs.declared.properties.Properties.TheVariants.{Unicode}

-- these properties let a table hold the code point, and the code points of an entry
abbrev pub IsPointBy : Properties → ℕ → Type 0
IsPointBy properties c = IsTrue (is_label_class (class_of properties c))

abbrev pub HasPointsBy : Properties → Entry → Type 0
HasPointsBy properties e = All (λ s. All (IsPointBy properties) s) (replacements e)

-- a code point that a table may hold by some properties
pub record IsTablePoint (c : ℕ) : Type 0 where
  pub scalar_value : IsScalarValue c
  pub class : IsTrue (is_label_class (class_of Unicode c))

-- 1 to 8 code points that a table may hold
pub record IsSequence (s : List ℕ) : Type 0 where
  pub filled : 1 ≤ length s
  pub short : length s ≤ 8
  pub points : All IsTablePoint s

-- two conditions, which differ
abbrev pub AreOther : Option Condition → Option Condition → Type 0
AreOther c d = (c ≢ None) × (d ≢ None) × (c ≢ d)

-- different sequences, or equal ones each of which has a condition of its own
abbrev pub AreApart : Variant → Variant → Type 0
AreApart v w = v.sequence ≡ w.sequence → AreOther v.condition w.condition

-- a source and at most 16 variants: no variant is the source, and equal variants have different conditions
pub record IsEntry (e : Entry) : Type 0 where
  pub sequences : All IsSequence (replacements e)
  pub few : length e.variants ≤ 16
  pub distinct : AllPairs AreApart (itself e ∷ e.variants)

-- at most 65,536 entries with different sources: the largest limit of any version
pub record IsWellFormed (table : List Entry) : Type 0 where
  pub entries : All IsEntry table
  pub sources : AllPairs (λ e f. e.source ≢ f.source) table
  pub few : length table ≤ 65536

-- the rule of a condition is one of those that are defined
abbrev pub HasItsRule : Definitions → Option Condition → Type 0
HasItsRule definitions None = Unit {0}
HasItsRule definitions (Some c) = c.rule < length definitions.rule_names

-- the type is one of those that are predefined or defined
abbrev pub HasItsType : Definitions → Option ℕ → Type 0
HasItsType definitions None = Unit {0}
HasItsType definitions (Some number) = number < length (type_names definitions)

pub record HasItsNames (definitions : Definitions) (v : Variant) : Type 0 where
  pub type : HasItsType definitions v.type
  pub condition : HasItsRule definitions v.condition

-- the source and the variants have
abbrev pub IsNamed : Definitions → Entry → Type 0
IsNamed definitions e = All (HasItsNames definitions) (whole e)

-- versions 1 and 2 define nothing
abbrev pub AreOfVersion : Version → Definitions → Type 0
AreOfVersion One definitions = definitions ≡ nothing_defined definitions.properties
AreOfVersion Two definitions = definitions ≡ nothing_defined definitions.properties
AreOfVersion Three definitions = Unit {0}

-- definitions without a fault and well-formed entries, as the version has them, whose types and rules are defined;
-- within its limits, the version line counted
pub record IsTable (table : TableValue) : Type 0 where
  pub without_fault : AreDefinitions table.definitions
  pub defined : AreOfVersion table.version table.definitions
  pub well_formed : IsWellFormed table.entries
  pub points : All (HasPointsBy table.definitions.properties) table.entries
  pub of_version : All (IsOfVersion table.version) table.entries
  pub named : All (IsNamed table.definitions) table.entries
  pub few : length table.entries ≤ entry_limit table.version
  pub short : length (table_text table.version table.definitions table.entries) ≤ text_limit table.version
