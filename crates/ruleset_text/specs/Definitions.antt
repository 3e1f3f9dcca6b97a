-- What the lines of a ruleset define so far, and what a further line makes of it.
use Rattle.std.specs.Prelude.{ℕ, ◌+◌, nat_le, nat_lt, Bool, true, false, ◌||◌, not, Option, Some, None, Result, Ok, Err}
use Rattle.std.specs.Prelude.{List, [], ◌∷◌, ◌++◌, length, map, slice_index_or, if◌then◌else◌}
use Rattle.std.specs.List.{flat_map}
use Rattle.label_patterns.specs.declared.span.Span.{Span}
use Rattle.label_patterns.specs.Patterns.{Pattern}
use Rattle.label_patterns.specs.Rules.{is_context_rule}
use Rattle.ruleset_text.specs.declared.definition.DemandKind.{DemandKind}
use Rattle.ruleset_text.specs.declared.fault.DefinitionFault.{DefinitionFault}
use Rattle.ruleset_text.specs.declared.fault.DefinitionFault.TheVariants.{Syntax, Limit, NoSuchName, BadClass, SameName}
use Rattle.ruleset_text.specs.declared.keyword.Keyword.{Keyword}
use Rattle.ruleset_text.specs.Actions.{NamedAction, knows_action}
use Rattle.ruleset_text.specs.Canonical.{definition_text}
use Rattle.ruleset_text.specs.Classes.{has_bad_point, has_bad_end}
use Rattle.ruleset_text.specs.Definition as definition
use Rattle.ruleset_text.specs.Definition.{Definition, definition_of, keyword_of}
use Rattle.ruleset_text.specs.Lexemes.{lexemes}
use Rattle.ruleset_text.specs.Limits.{groups, stars, atoms, has_its_sets}
use Rattle.ruleset_text.specs.Names.{is_one_of, number_of, predefined_types}
use Rattle.idn_class.specs.declared.properties.Properties.{Properties}

-- a demand on each label
pub record Demand : Type 0 where
  pub kind : DemandKind
  pub pattern : Pattern

-- whose classes are asked; the names of the variant types that are not predefined; the sets and their names, by number;
-- the rules of both kinds and their names, by number; the demands; the actions. Each in the order of the lines that
-- define them
pub record Definitions : Type 0 where
  pub properties : Properties
  pub types : List (List ℕ)
  pub set_names : List (List ℕ)
  pub sets : List (List Span)
  pub rule_names : List (List ℕ)
  pub rules : List Pattern
  pub demands : List Demand
  pub actions : List NamedAction

abbrev pub nothing_defined : Properties → Definitions
nothing_defined properties =
    record {
      properties = properties;
      types = [];
      set_names = [];
      sets = [];
      rule_names = [];
      rules = [];
      demands = [];
      actions = [];
    }

-- ---- all of them, in the order of canonical text

-- things with names, one after the other
abbrev pub named : {X : Type 0} → (List ℕ → X → Definition) → List (List ℕ) → List X → List Definition
named f [] xs = []
named f (name ∷ names) [] = []
named f (name ∷ names) (x ∷ xs) = f name x ∷ named f names xs

-- types, sets, rules, demands, actions
abbrev pub all_definitions : Definitions → List Definition
all_definitions d =
    map definition.VariantType d.types
    ++ (named definition.Set d.set_names d.sets ++ (named definition.Rule d.rule_names d.rules
    ++ (map (λ e. definition.Demand e.kind e.pattern) d.demands ++ map definition.Action d.actions)))

-- a line for each, without its line feed
abbrev pub canonical_lines : Definitions → List (List ℕ)
canonical_lines d = map (definition_text d.set_names) (all_definitions d)

-- how many bytes lines have, each with its line feed
abbrev pub lines_size : List (List ℕ) → ℕ
lines_size [] = 0
lines_size (line ∷ lines) = length line + 1 + lines_size lines

unfoldable pub canonical_size : Definitions → ℕ
canonical_size d = lines_size (canonical_lines d)

-- lines one after the other, each with its line feed
abbrev pub lines_text : List (List ℕ) → List ℕ
lines_text lines = flat_map (λ line. line ++ 10 ∷ []) lines

-- the canonical text of the definitions
abbrev pub definitions_text : Definitions → List ℕ
definitions_text d = lines_text (canonical_lines d)

-- the name of the rule of this number; nothing, where there is none
abbrev pub rule_name : Definitions → ℕ → List ℕ
rule_name d number = slice_index_or d.rule_names number []

-- the names of the types, the predefined ones first; each type has its place among them as its number
abbrev pub type_names : Definitions → List (List ℕ)
type_names d = predefined_types ++ d.types

-- the type of this number; nothing, where there is none
abbrev pub type_name : Definitions → ℕ → List ℕ
type_name d number = slice_index_or (type_names d) number []

-- the number of the type of this name, or how many types there are
abbrev pub type_number : Definitions → List ℕ → ℕ
type_number d name = number_of (type_names d) name

-- the names of the whole-label rules
abbrev pub whole_names : List (List ℕ) → List Pattern → List (List ℕ)
whole_names [] rules = []
whole_names (name ∷ names) [] = []
whole_names (name ∷ names) (p ∷ rules) =
    if is_context_rule p then whole_names names rules else name ∷ whole_names names rules

abbrev pub whole_rules : Definitions → List (List ℕ)
whole_rules d = whole_names d.rule_names d.rules

-- the names of types, sets and rules
abbrev pub all_names : Definitions → List (List ℕ)
all_names d = type_names d ++ (d.set_names ++ d.rule_names)

abbrev pub definition_atoms : Definition → ℕ
definition_atoms (definition.VariantType name) = 0
definition_atoms (definition.Set name spans) = 0
definition_atoms (definition.Rule name contexts) = atoms contexts
definition_atoms (definition.Demand kind p) = atoms p
definition_atoms (definition.Action a) = 0

abbrev pub atoms_in : List Definition → ℕ
atoms_in [] = 0
atoms_in (x ∷ xs) = definition_atoms x + atoms_in xs

-- how many atoms all patterns have together
unfoldable pub all_atoms : Definitions → ℕ
all_atoms d = atoms_in (all_definitions d)

-- ---- the faults of a further one

-- how many rules, demands and actions there are together
abbrev pub rule_lines : Definitions → ℕ
rule_lines d = length d.rules + (length d.demands + length d.actions)

-- a pattern more goes past a limit: 256 rules, demands and actions together, 8 groups within each other, 2 '*' within
-- each other, 4,096 atoms in all patterns together
abbrev pub is_pattern_over_limit : Definitions → Pattern → Bool
is_pattern_over_limit d p =
    nat_le 256 (rule_lines d) || nat_lt 8 (groups p) || nat_lt 2 (stars p) || nat_lt 4096 (all_atoms d + atoms p)

-- as many as may be are defined of its kind: 57 types beside the five that are predefined, 256 sets, 256 rules, demands
-- and actions together
abbrev pub has_most : Definitions → Definition → Bool
has_most d (definition.VariantType name) = nat_le 57 (length d.types)
has_most d (definition.Set name spans) = nat_le 256 (length d.sets)
has_most d x = nat_le 256 (rule_lines d)

-- so does one more of its kind
abbrev pub is_one_too_many : Definitions → Definition → Bool
is_one_too_many d (definition.VariantType name) = nat_le 57 (length d.types)
is_one_too_many d (definition.Set name spans) = nat_le 256 (length d.sets)
is_one_too_many d (definition.Rule name contexts) = is_pattern_over_limit d contexts
is_one_too_many d (definition.Demand kind p) = is_pattern_over_limit d p
is_one_too_many d (definition.Action a) = nat_le 256 (rule_lines d)

-- a canonical line of so many bytes is too long: of more than 8,192; or it goes, with its line feed, past what the
-- canonical text of the definitions may have
abbrev pub is_line_over_limit : ℕ → Definitions → ℕ → Bool
is_line_over_limit limit d size = nat_lt 8192 size || nat_lt limit (canonical_size d + (size + 1))

-- each set that its pattern names, each type and each whole-label rule that it asks for is defined
abbrev pub has_known_names : Definitions → Definition → Bool
has_known_names d (definition.VariantType name) = true
has_known_names d (definition.Set name spans) = true
has_known_names d (definition.Rule name contexts) = has_its_sets (length d.sets) contexts
has_known_names d (definition.Demand kind p) = has_its_sets (length d.sets) p
has_known_names d (definition.Action a) = knows_action (type_names d) (whole_rules d) a

-- a code point is written in it that no label has
abbrev pub has_bad_class : Properties → Definition → Bool
has_bad_class properties (definition.VariantType name) = false
has_bad_class properties (definition.Set name spans) = has_bad_end properties spans
has_bad_class properties (definition.Rule name contexts) = has_bad_point properties contexts
has_bad_class properties (definition.Demand kind p) = has_bad_point properties p
has_bad_class properties (definition.Action a) = false

-- its name is that of a type, a set or a rule
abbrev pub has_same_name : Definitions → Definition → Bool
has_same_name d (definition.VariantType name) = is_one_of (all_names d) name
has_same_name d (definition.Set name spans) = is_one_of (all_names d) name
has_same_name d (definition.Rule name contexts) = is_one_of (all_names d) name
has_same_name d (definition.Demand kind p) = false
has_same_name d (definition.Action a) = false

-- ---- what a further line makes of them

abbrev pub added : Definitions → Definition → Definitions
added d (definition.VariantType name) = record d { types = d.types ++ name ∷ [] }
added d (definition.Set name spans) = record d { set_names = d.set_names ++ name ∷ []; sets = d.sets ++ spans ∷ [] }
added d (definition.Rule name contexts) =
    record d { rule_names = d.rule_names ++ name ∷ []; rules = d.rules ++ contexts ∷ [] }
added d (definition.Demand kind p) = record d { demands = d.demands ++ record { kind = kind; pattern = p } ∷ [] }
added d (definition.Action a) = record d { actions = d.actions ++ a ∷ [] }

-- the definitions with a further one, or its first fault; none is a line that has no form
unfoldable pub with_definition : ℕ → Definitions → Option Definition → Result Definitions DefinitionFault
with_definition limit d None = Err Syntax
with_definition limit d (Some x) =
    if is_one_too_many d x then Err Limit else
    if not (has_known_names d x) then Err NoSuchName else
    if is_line_over_limit limit d (length (definition_text d.set_names x)) then Err Limit else
    if has_bad_class d.properties x then Err BadClass else
    if has_same_name d x then Err SameName else
    Ok (added d x)

-- the same for a line, by its keyword and the lexemes after it; the canonical text may have so many bytes
abbrev pub defined : ℕ → Definitions → Keyword → List (List ℕ) → Result Definitions DefinitionFault
defined limit d keyword words = with_definition limit d (definition_of d.set_names keyword words)

-- ---- lines one after the other

abbrev pub with_keyword : ℕ → Definitions → Option Keyword → List (List ℕ) → Result Definitions DefinitionFault
with_keyword limit d None words = Err Syntax
with_keyword limit d (Some keyword) words = defined limit d keyword words

-- the definitions with that of a line, by its lexemes, the first of which is the keyword
abbrev pub with_words : ℕ → Definitions → List (List ℕ) → Result Definitions DefinitionFault
with_words limit d [] = Err Syntax
with_words limit d (word ∷ words) = with_keyword limit d (keyword_of word) words

-- what f makes of an answer, or the fault
abbrev pub and_then : Result Definitions DefinitionFault → (Definitions → Result Definitions DefinitionFault) →
    Result Definitions DefinitionFault
and_then (Ok d) f = f d
and_then (Err fault) f = Err fault

-- the definitions with those of lines, or the first fault
abbrev pub with_lines : ℕ → Definitions → List (List ℕ) → Result Definitions DefinitionFault
with_lines limit d [] = Ok d
with_lines limit d (line ∷ lines) = and_then (with_words limit d (lexemes line)) (λ e. with_lines limit e lines)
