-- What a line defines: a variant type, a set, a rule, a demand or an action.
use Rattle.std.specs.Prelude.{ℕ, Bool, not, Option, Some, None, List, [], ◌∷◌, bytes_eq, codes, if◌then◌else◌}
use Rattle.std.specs.Option.{option_map}
use Rattle.label_patterns.specs.declared.span.Span.{Span}
use Rattle.label_patterns.specs.Patterns.{Pattern}
use Rattle.ruleset_text.specs.declared.definition.DemandKind.{DemandKind}
use Rattle.ruleset_text.specs.declared.definition.DemandKind.TheVariants as demand
use Rattle.ruleset_text.specs.declared.keyword.Keyword.{Keyword}
use Rattle.ruleset_text.specs.declared.keyword.Keyword.TheVariants as keyword
use Rattle.ruleset_text.specs.Actions.{NamedAction}
use Rattle.ruleset_text.specs.ActionSteps.{action_in}
use Rattle.ruleset_text.specs.Signs as sign
use Rattle.ruleset_text.specs.Lexemes.{lexemes}
use Rattle.ruleset_text.specs.Names.{is_name}
use Rattle.ruleset_text.specs.Reading.{pattern_of}
use Rattle.ruleset_text.specs.Rules.{has, is_rule}
use Rattle.ruleset_text.specs.Spans.{spans_in}
use Rattle.ruleset_text.specs.Tokens.{tokens_in}

-- ---- the word with which a definition begins

abbrev pub keyword_of : List ℕ → Option Keyword
keyword_of word =
    if bytes_eq word (codes "%type") then Some keyword.VariantType else
    if bytes_eq word (codes "%set") then Some keyword.Set else
    if bytes_eq word (codes "%rule") then Some keyword.Rule else
    if bytes_eq word (codes "%whole") then Some keyword.Whole else
    if bytes_eq word (codes "%never") then Some keyword.Never else
    if bytes_eq word (codes "%always") then Some keyword.Always else
    if bytes_eq word (codes "%action") then Some keyword.Action else None

-- the keyword of a demand
abbrev pub demand_word : DemandKind → List ℕ
demand_word demand.Never = codes "%never"
demand_word demand.Always = codes "%always"

-- ---- a pattern that stands alone, and the contexts of a context rule

-- the pattern, if the test is true of it
abbrev pub if_such : (Pattern → Bool) → Option Pattern → Option Pattern
if_such test None = None
if_such test (Some p) = if test p then Some p else None

-- the pattern of a demand or of a whole-label rule: it has no '_'
abbrev pub demand_in : List (List ℕ) → List (List ℕ) → Option Pattern
demand_in names words = if_such (λ p. not (has sign.Anchor p)) (pattern_of (tokens_in names words))

abbrev pub demand_of : List (List ℕ) → List ℕ → Option Pattern
demand_of names line = demand_in names (lexemes line)

-- the contexts of a context rule
abbrev pub contexts_in : List (List ℕ) → List (List ℕ) → Option Pattern
contexts_in names words = if_such is_rule (pattern_of (tokens_in names words))

abbrev pub contexts_of : List (List ℕ) → List ℕ → Option Pattern
contexts_of names line = contexts_in names (lexemes line)

-- ---- a definition

-- a variant type by its name; a set, with its spans; a rule, with its contexts or with the pattern of a whole-label
-- rule; a demand; an action
pub data Definition : Type 0 where
  VariantType : List ℕ → Definition
  Set : List ℕ → List Span → Definition
  Rule : List ℕ → Pattern → Definition
  Demand : DemandKind → Pattern → Definition
  Action : NamedAction → Definition

-- what the lexemes after a keyword define, if they have the form: a name alone; a name, then spans; a name, then
-- contexts; a name, then a pattern
abbrev pub type_in : List (List ℕ) → Option Definition
type_in [] = None
type_in (name ∷ []) = if is_name name then Some (VariantType name) else None
type_in (name ∷ word ∷ words) = None

abbrev pub set_in : List (List ℕ) → Option Definition
set_in [] = None
set_in (name ∷ words) = if is_name name then option_map (Set name) (spans_in words) else None

abbrev pub rule_in : List (List ℕ) → List (List ℕ) → Option Definition
rule_in names [] = None
rule_in names (name ∷ words) = if is_name name then option_map (Rule name) (contexts_in names words) else None

abbrev pub whole_in : List (List ℕ) → List (List ℕ) → Option Definition
whole_in names [] = None
whole_in names (name ∷ words) = if is_name name then option_map (Rule name) (demand_in names words) else None

-- the definition of a keyword and the lexemes after it; the sets that patterns name have these names
abbrev pub definition_of : List (List ℕ) → Keyword → List (List ℕ) → Option Definition
definition_of names keyword.VariantType words = type_in words
definition_of names keyword.Set words = set_in words
definition_of names keyword.Rule words = rule_in names words
definition_of names keyword.Whole words = whole_in names words
definition_of names keyword.Never words = option_map (Demand demand.Never) (demand_in names words)
definition_of names keyword.Always words = option_map (Demand demand.Always) (demand_in names words)
definition_of names keyword.Action words = option_map Action (action_in words)
