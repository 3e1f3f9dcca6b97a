-- Actions as their lines write them (RFC 7940, section 7): rules and types go by their names.
use Rattle.std.specs.Prelude.{ℕ, ◌<◌, ◌&&◌, not, Bool, true, false, Option, Some, None, List, [], ◌∷◌, ◌++◌, length}
use Rattle.std.specs.Prelude.{codes}
use Rattle.std.specs.List.{list_all}
use Rattle.label_patterns.specs.declared.condition.ConditionKind.{ConditionKind}
use Rattle.label_patterns.specs.declared.condition.ConditionKind.TheVariants.{When, Unless}
use Rattle.ruleset_text.specs.declared.action.TriggerKind.{TriggerKind}
use Rattle.ruleset_text.specs.declared.action.TriggerKind.TheVariants.{Any, All, Only}
use Rattle.ruleset_text.specs.declared.named_condition.NamedCondition.{NamedCondition}
use Rattle.ruleset_text.specs.NamedConditions.{HasRule, condition_text}
use Rattle.ruleset_text.specs.Names.{AreNames, is_one_of}
use Rattle.variant_dispositions.specs.declared.disposition.Disposition.{Disposition}
use Rattle.variant_dispositions.specs.declared.disposition.Disposition.TheVariants.{Invalid, Blocked, Allocatable}
use Rattle.variant_dispositions.specs.declared.disposition.Disposition.TheVariants.{Activated, Valid}

-- the types that an action asks for, in the order of its line
pub record NamedTrigger : Type 0 where
  pub kind : TriggerKind
  pub types : List (List ℕ)

-- the disposition of a label that triggers the action; the whole-label rule that the label has to match, or must not;
-- the types
pub record NamedAction : Type 0 where
  pub disposition : Disposition
  pub condition : Option NamedCondition
  pub trigger : Option NamedTrigger

-- ---- its words

abbrev pub disposition_word : Disposition → List ℕ
disposition_word Invalid = codes "invalid"
disposition_word Blocked = codes "blocked"
disposition_word Allocatable = codes "allocatable"
disposition_word Activated = codes "activated"
disposition_word Valid = codes "valid"

abbrev pub kind_word : ConditionKind → List ℕ
kind_word When = codes "when"
kind_word Unless = codes "unless"

abbrev pub trigger_word : TriggerKind → List ℕ
trigger_word Any = codes "any"
trigger_word All = codes "all"
trigger_word Only = codes "only"

-- ',' between names
abbrev pub listed : List (List ℕ) → List (List ℕ)
listed [] = []
listed (name ∷ []) = name ∷ []
listed (name ∷ other ∷ names) = name ∷ codes "," ∷ listed (other ∷ names)

abbrev pub condition_lexemes : Option NamedCondition → List (List ℕ)
condition_lexemes None = []
condition_lexemes (Some c) = kind_word c.kind ∷ c.rule ∷ []

abbrev pub trigger_lexemes : Option NamedTrigger → List (List ℕ)
trigger_lexemes None = []
trigger_lexemes (Some t) = trigger_word t.kind ∷ listed t.types

-- the lexemes that spell the action
abbrev pub action_lexemes : NamedAction → List (List ℕ)
action_lexemes a = disposition_word a.disposition ∷ (condition_lexemes a.condition ++ trigger_lexemes a.trigger)

-- ---- its text

-- ',' between names
abbrev pub names_text : List (List ℕ) → List ℕ
names_text [] = []
names_text (name ∷ []) = name
names_text (name ∷ other ∷ names) = name ++ 44 ∷ names_text (other ∷ names)

abbrev pub trigger_text : Option NamedTrigger → List ℕ
trigger_text None = []
trigger_text (Some t) = 32 ∷ (trigger_word t.kind ++ 32 ∷ names_text t.types)

abbrev pub action_text : NamedAction → List ℕ
action_text a = disposition_word a.disposition ++ (condition_text a.condition ++ trigger_text a.trigger)

-- ---- its form

-- some types, of which none is given twice
abbrev pub HasTypes : Option NamedTrigger → Type 0
HasTypes None = Unit {0}
HasTypes (Some t) = (0 < length t.types) × AreNames t.types

pub record IsAction (a : NamedAction) : Type 0 where
  pub rule : HasRule a.condition
  pub types : HasTypes a.trigger

-- ---- its names

abbrev pub knows_rule : List (List ℕ) → Option NamedCondition → Bool
knows_rule whole_rules None = true
knows_rule whole_rules (Some c) = is_one_of whole_rules c.rule

abbrev pub knows_types : List (List ℕ) → Option NamedTrigger → Bool
knows_types types None = true
knows_types types (Some t) = list_all (is_one_of types) t.types

-- its types are among these, and its rule is among these whole-label rules
abbrev pub knows_action : List (List ℕ) → List (List ℕ) → NamedAction → Bool
knows_action types whole_rules a = knows_rule whole_rules a.condition && knows_types types a.trigger

-- for each of its lexemes: whether it is a name that is none of these
abbrev pub type_marks : List (List ℕ) → List (List ℕ) → List Bool
type_marks types [] = []
type_marks types (name ∷ []) = not (is_one_of types name) ∷ []
type_marks types (name ∷ other ∷ names) = not (is_one_of types name) ∷ false ∷ type_marks types (other ∷ names)

abbrev pub condition_marks : List (List ℕ) → Option NamedCondition → List Bool
condition_marks whole_rules None = []
condition_marks whole_rules (Some c) = false ∷ not (is_one_of whole_rules c.rule) ∷ []

abbrev pub trigger_marks : List (List ℕ) → Option NamedTrigger → List Bool
trigger_marks types None = []
trigger_marks types (Some t) = false ∷ type_marks types t.types

abbrev pub action_marks : List (List ℕ) → List (List ℕ) → NamedAction → List Bool
action_marks types whole_rules a = false ∷ (condition_marks whole_rules a.condition ++ trigger_marks types a.trigger)
