-- What may be wrong with a line that is to define something, and which of it is told.
use Rattle.std.specs.Prelude.{◌≡◌, ℕ, ◌<◌, Bool, false, not, IsTrue, Some, List, [], ◌∷◌, length}
use Rattle.label_patterns.specs.Patterns.{Pattern}
use Rattle.ruleset_text.specs.declared.definition.DemandKind.{DemandKind}
use Rattle.ruleset_text.specs.declared.definition.DemandKind.TheVariants as demand
use Rattle.ruleset_text.specs.declared.fault.DefinitionFault.{DefinitionFault}
use Rattle.ruleset_text.specs.declared.fault.DefinitionFault.TheVariants.{Syntax, Limit, NoSuchName, BadClass, SameName}
use Rattle.ruleset_text.specs.declared.keyword.Keyword.{Keyword}
use Rattle.ruleset_text.specs.declared.keyword.Keyword.TheVariants as keyword
use Rattle.ruleset_text.specs.Actions.{IsAction, action_lexemes}
use Rattle.ruleset_text.specs.Signs as sign
use Rattle.ruleset_text.specs.Canonical.{definition_text}
use Rattle.ruleset_text.specs.Definition as definition
use Rattle.ruleset_text.specs.Definition.{Definition, keyword_of}
use Rattle.ruleset_text.specs.Definitions.{Definitions, is_line_over_limit, is_one_too_many, has_known_names}
use Rattle.ruleset_text.specs.Definitions.{has_bad_class, has_same_name}
use Rattle.ruleset_text.specs.Grammar.{SpellsPattern}
use Rattle.ruleset_text.specs.Names.{is_name}
use Rattle.ruleset_text.specs.Rules.{has, is_rule}
use Rattle.ruleset_text.specs.SpanWords.{SpellSet}
use Rattle.ruleset_text.specs.Tokens.{tokens_in}

-- ---- the form of the line

abbrev pub demand_keyword : DemandKind → Keyword
demand_keyword demand.Never = keyword.Never
demand_keyword demand.Always = keyword.Always

-- the pattern is the contexts of a context rule; or it has no '_', and is that of a whole-label rule
abbrev pub IsOfKeyword : Keyword → Pattern → Type 0
IsOfKeyword keyword.Rule p = IsTrue (is_rule p)
IsOfKeyword keyword.Whole p = has sign.Anchor p ≡ false
IsOfKeyword k p = ⊥

-- the keyword and the lexemes after it spell the definition: a type by its name alone; a set by its name, then its
-- spans; a rule by its name, then its pattern; a demand by a pattern without '_'; an action. The sets that patterns
-- name have these names
abbrev pub SpellsDefinition : List (List ℕ) → Keyword → List (List ℕ) → Definition → Type 0
SpellsDefinition names k words (definition.VariantType name) =
    (k ≡ keyword.VariantType) × IsTrue (is_name name) × (words ≡ name ∷ [])
SpellsDefinition names k words (definition.Set name spans) =
    (k ≡ keyword.Set) × IsTrue (is_name name) × (after : List (List ℕ)) × (words ≡ name ∷ after) × SpellSet after spans
SpellsDefinition names k words (definition.Rule name p) =
    IsOfKeyword k p × IsTrue (is_name name) × (after : List (List ℕ)) × (words ≡ name ∷ after)
    × SpellsPattern (tokens_in names after) p
SpellsDefinition names k words (definition.Demand kind p) =
    (k ≡ demand_keyword kind) × SpellsPattern (tokens_in names words) p × (has sign.Anchor p ≡ false)
SpellsDefinition names k words (definition.Action a) = (k ≡ keyword.Action) × IsAction a × (words ≡ action_lexemes a)

-- the lexemes of a line, the first of which is the keyword
abbrev pub SpellsLine : List (List ℕ) → List (List ℕ) → Definition → Type 0
SpellsLine names [] x = ⊥
SpellsLine names (word ∷ words) x = (k : Keyword) × (keyword_of word ≡ Some k) × SpellsDefinition names k words x

-- they define something
abbrev pub IsDefinitionLine : List (List ℕ) → List (List ℕ) → Type 0
IsDefinitionLine names words = (x : Definition) × SpellsLine names words x

-- ---- the first thing that is wrong

-- what may be wrong with the line, in the order in which it is told
pub data DefinitionCondition : Type 0 where
  no_form : DefinitionCondition
  one_too_many : DefinitionCondition
  no_such_name : DefinitionCondition
  long_line : DefinitionCondition
  bad_class : DefinitionCondition
  same_name : DefinitionCondition

-- the place of a condition in that order
abbrev pub order_of : DefinitionCondition → ℕ
order_of no_form = 1
order_of one_too_many = 2
order_of no_such_name = 3
order_of long_line = 4
order_of bad_class = 5
order_of same_name = 6

-- what is told of a line for which the condition holds
abbrev pub fault_of : DefinitionCondition → DefinitionFault
fault_of no_form = Syntax
fault_of one_too_many = Limit
fault_of no_such_name = NoSuchName
fault_of long_line = Limit
fault_of bad_class = BadClass
fault_of same_name = SameName

-- a test of the definition that the line spells: of its kind and its pattern, of the names that it asks for, of its
-- canonical line, of its code points, of its name. The canonical text may have so many bytes
abbrev pub test_of : ℕ → Definitions → DefinitionCondition → Definition → Bool
test_of limit d no_form x = false
test_of limit d one_too_many x = is_one_too_many d x
test_of limit d no_such_name x = not (has_known_names d x)
test_of limit d long_line x = is_line_over_limit limit d (length (definition_text d.set_names x))
test_of limit d bad_class x = has_bad_class d.properties x
test_of limit d same_name x = has_same_name d x

-- the condition holds for a line, by its keyword and the lexemes after it. So much was defined before it
abbrev pub Holds : ℕ → Definitions → Keyword → List (List ℕ) → DefinitionCondition → Type 0
Holds limit d k words no_form = (x : Definition) → SpellsDefinition d.set_names k words x → ⊥
Holds limit d k words c = (x : Definition) × SpellsDefinition d.set_names k words x × IsTrue (test_of limit d c x)

-- the fault of the first condition that holds
abbrev pub IsDefinitionFault : ℕ → Definitions → Keyword → List (List ℕ) → DefinitionFault → Type 0
IsDefinitionFault limit d k words fault =
    (c : DefinitionCondition) × (fault_of c ≡ fault) × Holds limit d k words c
    × ((e : DefinitionCondition) → order_of e < order_of c → Holds limit d k words e → ⊥)
