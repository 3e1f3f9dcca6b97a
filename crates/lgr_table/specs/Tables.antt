-- Which table of version 3 says what a file says (RFC 7940).
use Rattle.std.specs.Prelude.{◌≡◌, ℕ, ◌<◌, ◌≤◌, ◌↔◌, Bool, IsTrue, not, List, [], ◌∷◌, ◌++◌}
use Rattle.std.specs.Prelude.{Some, None, All, AllPairs, Contains, IsSome, filter, is_some, length, map}
use Rattle.std.specs.Prelude.{slice_index_or, ◌≢◌, unwrap_or}
use Rattle.std.specs.Option.{option_map}
use Rattle.idn_class.specs.declared.properties.Properties.{Properties}
use Rattle.label_patterns.specs.Laws.{seen}
use Rattle.label_patterns.specs.declared.condition.ConditionKind.{ConditionKind}
use Rattle.label_patterns.specs.declared.condition.ConditionKind.TheVariants.{Unless, When}
use Rattle.label_patterns.specs.Patterns.{Anchor, Pattern}
use Rattle.label_patterns.specs.Rules.{Holds}
use Rattle.lgr_text.specs.ActionNames.{each_once}
use Rattle.lgr_text.specs.Demands.{demanded, following, leading, rule_alone}
use Rattle.lgr_text.specs.Records.{Action, Condition, IsRule, Part, Ruleset, Trigger}
use Rattle.lgr_table.specs.Entries.{AreOfOneType, all_entries, needs_type}
use Rattle.lgr_text.specs.Meanings.{AreMeaningsOf, Meanings, RuleHolds}
use Rattle.lgr_text.specs.Names.{HasItsNames}
use Rattle.lgr_table.specs.Numbers.{Numbering, all_types, type_number, types_of}
use Rattle.lgr_table.specs.TableNames.{AreTableNames, names_with}
use Rattle.ruleset_text.specs.declared.named_condition.NamedCondition.{NamedCondition}
use Rattle.ruleset_text.specs.Actions.{NamedAction, NamedTrigger, disposition_word}
use Rattle.ruleset_text.specs.Classes.{is_bad_point}
use Rattle.ruleset_text.specs.Definitions.{Definitions, Demand, type_name}
use Rattle.ruleset_text.specs.declared.definition.DemandKind.{DemandKind}
use Rattle.ruleset_text.specs.declared.definition.DemandKind.TheVariants.{Always, Never}
use Rattle.ruleset_text.specs.Names.{number_of}
use Rattle.variant_table.specs.declared.version.Version.TheVariants.{Three}
use Rattle.variant_table.specs.Entries.{Entry, TableValue}
use Rattle.variant_table.specs.WellFormed.{IsTable}

-- ---- numbers

-- the code points that a table may hold
abbrev pub may_stand : Properties → ℕ → Bool
may_stand properties c = not (is_bad_point properties c)

-- each type of the file has a number, and so has having none, if that has to be a type, and nothing else but what is
-- predefined; no type and no rule has two
pub record IsNumbering (may : ℕ → Bool) (r : Ruleset) (n : Numbering) : Type 0 where
  pub types : (name : List ℕ) → Contains (types_of r) name → IsSome (type_number n (Some name))
  pub own : (name : List ℕ) → Contains n.types (Some name) → Contains (types_of r) name
  pub untyped : Contains n.types None ↔ IsTrue (needs_type may r.entries)
  pub each_type : AllPairs (λ a b. a ≢ b) (all_types n)
  pub each_rule : AllPairs (λ a b. a ≢ b) n.rules

-- ---- rules

-- labels of code points that some source has
abbrev pub IsOfSources : List Entry → List ℕ → Type 0
IsOfSources entries label = All (λ c. (e : Entry) × Contains entries e × Contains e.source c) label

-- the pattern holds in labels of these entries where the rule does. The sets that it names are these
abbrev pub SaysRule : Meanings → List Entry → Definitions → Pattern → Part → Type 0
SaysRule m entries d p rule =
    (label : List ℕ) (i j : ℕ) → IsOfSources entries label → i ≤ length label → j ≤ length label
    → Holds (seen d.sets label) p i j ↔ RuleHolds m rule label i j

-- each numbered rule is one of the file, and its pattern says it
abbrev pub SayRules : Ruleset → Meanings → Numbering → TableValue → Type 0
SayRules r m n t =
    (k : ℕ) → k < length n.rules
    → (rule : Part) × Contains r.definitions (record { name = slice_index_or n.rules k []; meaning = IsRule rule })
    × SaysRule m t.entries t.definitions (slice_index_or t.definitions.rules k Anchor) rule

-- ---- actions (section 7). The default actions follow those of each table, and are not written

abbrev pub called_condition : Numbering → Definitions → Condition → NamedCondition
called_condition n d c = record { kind = c.kind; rule = slice_index_or d.rule_names (number_of n.rules c.rule) [] }

-- a type by the name that the table has for its number; nothing, if it has none
abbrev pub called_type : Numbering → Definitions → List ℕ → List ℕ
called_type n d name = unwrap_or (option_map (type_name d) (type_number n (Some name))) []

-- a type that is given twice says no more than one that is given once
abbrev pub called_trigger : Numbering → Definitions → Trigger → NamedTrigger
called_trigger n d t = record { kind = t.kind; types = each_once (map (called_type n d) t.types) }

pub record SaysAction (n : Numbering) (d : Definitions) (action : Action) (named : NamedAction) : Type 0 where
  pub disposition : disposition_word named.disposition ≡ action.disposition
  pub condition : named.condition ≡ option_map (called_condition n d) action.condition
  pub trigger : named.trigger ≡ option_map (called_trigger n d) action.trigger

-- each the action at the same place
abbrev pub SayActions : Numbering → Definitions → List Action → List NamedAction → Type 0
SayActions n d [] [] = Unit {0}
SayActions n d [] (b ∷ named) = ⊥
SayActions n d (a ∷ actions) [] = ⊥
SayActions n d (a ∷ actions) (b ∷ named) = SaysAction n d a b × SayActions n d actions named

-- ---- demands. The other actions follow them: which of those that make labels invalid is triggered makes no
-- difference (7.4)

-- those that are no demands
abbrev pub acting : List Action → List Action
acting actions = filter (λ a. not (is_some (rule_alone a))) (leading actions) ++ following actions

-- no label may match the rule; or each has to
abbrev pub demand_kind : ConditionKind → DemandKind
demand_kind When = Never
demand_kind Unless = Always

pub record SaysDemand (n : Numbering) (d : Definitions) (condition : Condition) (demand : Demand) : Type 0 where
  pub kind : demand.kind ≡ demand_kind condition.kind
  pub pattern : demand.pattern ≡ slice_index_or d.rules (number_of n.rules condition.rule) Anchor

abbrev pub SayDemands : Numbering → Definitions → List Condition → List Demand → Type 0
SayDemands n d [] [] = Unit {0}
SayDemands n d [] (b ∷ demands) = ⊥
SayDemands n d (c ∷ conditions) [] = ⊥
SayDemands n d (c ∷ conditions) (b ∷ demands) = SaysDemand n d c b × SayDemands n d conditions demands

-- ---- the table

-- the types, rules, demands and actions of a table of version 3 are those of the file, by these numbers and with their
-- names
pub record Defines (may : ℕ → Bool) (r : Ruleset) (n : Numbering) (t : TableValue) : Type 0 where
  pub version : t.version ≡ Three
  pub numbers : IsNumbering may r n
  pub names : AreTableNames (names_with n.types r) n.rules t.definitions
  pub types : length t.definitions.types ≡ length n.types
  pub rules : length t.definitions.rules ≡ length n.rules
  pub demands : SayDemands n t.definitions (demanded r.actions) t.definitions.demands
  pub actions : SayActions n t.definitions (acting r.actions) t.definitions.actions

-- a well-formed table: it defines what the file does, and its entries are those of the file, less what no label has
pub record Says (properties : Properties) (r : Ruleset) (m : Meanings) (n : Numbering) (t : TableValue) : Type 0 where
  pub well_formed : IsTable t
  pub by_these : t.definitions.properties ≡ properties
  pub defines : Defines (may_stand properties) r n t
  pub of_one_type : AreOfOneType (may_stand properties) r.entries
  pub entries : t.entries ≡ all_entries (may_stand properties) n r.entries
  pub say_rules : SayRules r m n t

-- the table says what the file says, whose names are all defined
pub record IsTableOf (properties : Properties) (r : Ruleset) (t : TableValue) : Type 0 where
  pub meanings : Meanings
  pub numbering : Numbering
  pub names : HasItsNames r
  pub are_meant : AreMeaningsOf (may_stand properties) r meanings
  pub says : Says properties r meanings numbering t
