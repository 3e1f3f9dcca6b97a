-- What each step of making a table may tell.
use Rattle.std.specs.Prelude.{◌≡◌, ◌≢◌, ◌⊎◌, ℕ, ◌+◌, ◌-◌, ◌<◌, Bool, true, List, None, Contains, length}
use Rattle.std.specs.Prelude.{map, slice_index_or}
use Rattle.label_patterns.specs.Patterns.{Anchor, Pattern}
use Rattle.label_patterns.specs.Rules.{is_context_rule}
use Rattle.lgr_text.specs.Known.{Known}
use Rattle.lgr_text.specs.Records.{Range, Sequence, Source, entry, file, variant}
use Rattle.lgr_text.specs.declared.records.Condition.{Condition}
use Rattle.lgr_text.specs.declared.records.Entry.{Entry}
use Rattle.lgr_text.specs.declared.records.Ruleset.{Ruleset}
use Rattle.lgr_text.specs.declared.records.Variant.{Variant}
use Rattle.lgr_text.specs.declared.rule_error.RuleError.{RuleError}
use Rattle.lgr_text.specs.declared.rule_error.RuleError.TheVariants as error
use Rattle.lgr_text.specs.declared.rule_error.RuleFault.TheVariants as wrong
use Rattle.lgr_text.specs.Repertoire.{is_reflexive, may_be}
use Rattle.lgr_table.specs.Entries.{all_entries}
use Rattle.lgr_table.specs.Faults.{HasRuleOn, HasWrongDefinition, IsNull, IsReflexiveAgain, Knows, LackRoom}
use Rattle.lgr_table.specs.Faults.{StandsEarlier}
use Rattle.lgr_text.specs.Names.{IsRuleOf}
use Rattle.lgr_table.specs.Numbers.{Numbering}
use Rattle.lgr_table.specs.Tables.{Defines}
use Rattle.ruleset_text.specs.Names.{number_of}
use Rattle.variant_table.specs.Entries.{TableValue}
use Rattle.variant_table.specs.WellFormed.{IsTable}
use Rattle.variant_table.specs.declared.fault.EntryFault.{EntryFault}
use Rattle.variant_table.specs.declared.fault.EntryFault.TheVariants as added
use Rattle.lgr_table.specs.declared.fault.TableError.{TableError}
use Rattle.lgr_table.specs.declared.fault.TableError.TheVariants.{Fault, Memory}
use Rattle.lgr_table.specs.declared.fault.TableFault.TheVariants.{Limit, NotSupported, SameSource, SameVariant}

-- these rules are all that the ruleset defines
abbrev pub HasRulesOf : Ruleset → List (List ℕ) → Type 0
HasRulesOf r rules = (name : List ℕ) → IsRuleOf (file r) name → Contains rules name

-- all definitions are known, the rules by these names and patterns
abbrev pub KnowsRules : (ℕ → Bool) → Ruleset → List (List ℕ) → List Pattern → Type 0
KnowsRules may r names rules =
    (known : Known) × Knows may r (Contains r.definitions.items) known × (known.rule_names ≡ names) × (known.rules ≡ rules)

-- each of these conditions is one of those
abbrev pub AreAllIn : List Condition → List Condition → Type 0
AreAllIn all some = (c : Condition) → Contains some c → Contains all c

-- ---- definitions

-- what is told of a definition on this line
abbrev pub TellsOfDefinition : (ℕ → Bool) → Ruleset → ℕ → RuleError → Type 0
TellsOfDefinition may r line (error.Fault wrong.Limit) = HasRuleOn r line
TellsOfDefinition may r line (error.Fault fault) = HasWrongDefinition may r fault line
TellsOfDefinition may r line error.Memory = Unit {0}

-- there is no room for what stands on this line
abbrev pub IsLimitOn : ℕ → TableError → Type 0
IsLimitOn on (Fault Limit line) = line ≡ on
IsLimitOn on (Fault kind line) = ⊥
IsLimitOn on Memory = Unit {0}

-- ---- actions

-- a disposition that isn't known, of an action on this line
abbrev pub TellsDisposition : RuleError → ℕ → TableError → Type 0
TellsDisposition told on (Fault NotSupported line) = (told ≡ error.Fault wrong.NotSupported) × (line ≡ on)
TellsDisposition told on (Fault kind line) = ⊥
TellsDisposition told on Memory = Unit {0}

-- the anchor stands in the pattern of this rule
abbrev pub IsAnchored : List (List ℕ) → List Pattern → List ℕ → Type 0
IsAnchored names rules name =
    (number_of names name < length rules)
    × (is_context_rule (slice_index_or rules (number_of names name) Anchor) ≡ true)

-- the anchor in the rule that is asked for on this line, or that there is no room for what stands there
abbrev pub TellsAnchored : Bool → ℕ → TableError → Type 0
TellsAnchored anchored on (Fault NotSupported line) = (anchored ≡ true) × (line ≡ on)
TellsAnchored anchored on told = IsLimitOn on told

-- ---- variants

-- a second variant that is the source, or one that has a condition
abbrev pub TellsReflexive : List ℕ → Variant → Bool → TableError → Type 0
TellsReflexive source v found (Fault NotSupported line) =
    (line ≡ v.line) × (is_reflexive source (variant v) ≡ true)
    × ((found ≡ true) ⊎ ((variant v).condition ≢ None))
TellsReflexive source v found told = ⊥

-- a variant that no table says
abbrev pub TellsVariants : Entry → List ℕ → TableError → Type 0
TellsVariants e source (Fault NotSupported line) = IsNull e line ⊎ IsReflexiveAgain e source line
TellsVariants e source (Fault kind line) = ⊥
TellsVariants e source Memory = Unit {0}

-- a variant that stands before it
abbrev pub TellsRepeated : List Variant → TableError → Type 0
TellsRepeated variants (Fault SameVariant line) =
    (number : ℕ) × (twice : StandsEarlier variants number) × (line ≡ twice.again.line)
TellsRepeated variants (Fault kind line) = ⊥
TellsRepeated variants Memory = Unit {0}

-- ---- sources

-- how many code points a range has
abbrev pub point_count : Source → ℕ
point_count (Sequence points) = 0
point_count (Range span) = span.last - span.first + 1

-- why an entry isn't added
abbrev pub TellsEntry : Entry → EntryFault → TableError → Type 0
TellsEntry e fault (Fault Limit line) = (fault ≡ added.Limit) × (line ≡ e.line)
TellsEntry e fault (Fault SameSource line) = (fault ≡ added.SameSource) × (line ≡ e.line)
TellsEntry e fault told = TellsRepeated e.variants.items told

-- why one of these sources isn't added
abbrev pub TellsSources : (ℕ → Bool) → Numbering → Entry → List (List ℕ) → TableValue → TableError → Type 0
TellsSources may n e all t (Fault Limit line) = (line ≡ e.line) × LackRoom may n e all t
TellsSources may n e all t (Fault SameSource line) =
    (line ≡ e.line) × (s : List ℕ) × Contains all s × Contains (map (λ f. f.source) t.entries) s
TellsSources may n e all t (Fault NotSupported line) =
    (s : List ℕ) × Contains all s × (may_be may s ≡ true) × (IsNull e line ⊎ IsReflexiveAgain e s line)
TellsSources may n e all t told = TellsRepeated e.variants.items told

-- the table has got all that the ruleset defines
pub record HasDefinitionsOf (may : ℕ → Bool) (r : Ruleset) (n : Numbering) (t : TableValue) : Type 0 where
  pub is_table : IsTable t
  pub defines : Defines may (file r) n t
  pub rules : HasRulesOf r n.rules

-- the table has got the entries of these elements
abbrev pub HasEntriesOf : (ℕ → Bool) → Numbering → List Entry → TableValue → TableValue → Type 0
HasEntriesOf may n elements t u = u ≡ record t { entries = all_entries may n (map entry elements) }
