-- Definitions without a fault.
use Rattle.std.specs.Prelude.{◌≡◌, ℕ, ◌<◌, ◌≤◌, false, true, List, length}
use Rattle.std.specs.List.{AllByRecursion}
use Rattle.label_patterns.specs.declared.span.Span.{Span}
use Rattle.label_patterns.specs.Matches.{HasItsSets}
use Rattle.label_patterns.specs.Patterns.{Pattern}
use Rattle.label_patterns.specs.Sets.{Rise}
use Rattle.ruleset_text.specs.Actions.{IsAction, knows_action}
use Rattle.ruleset_text.specs.Signs as sign
use Rattle.ruleset_text.specs.Canonical.{definition_text}
use Rattle.ruleset_text.specs.Classes.{has_bad_point, has_bad_end}
use Rattle.ruleset_text.specs.Definition as definition
use Rattle.ruleset_text.specs.Definition.{Definition}
use Rattle.ruleset_text.specs.Definitions.{Definitions, all_definitions, all_names, all_atoms, rule_lines, type_names}
use Rattle.ruleset_text.specs.Definitions.{whole_rules}
use Rattle.ruleset_text.specs.Grammar.{Is, Whole}
use Rattle.ruleset_text.specs.Limits.{IsWithin}
use Rattle.ruleset_text.specs.Names.{AreNames}
use Rattle.ruleset_text.specs.Rules.{has, is_rule_or_whole}
use Rattle.idn_class.specs.declared.properties.Properties.{Properties}

-- the spans of a set: there is one, they rise, and their ends are of the three classes
pub record IsSet (properties : Properties) (spans : List Span) : Type 0 where
  pub some : 0 < length spans
  pub rise : Rise spans
  pub classes : has_bad_end properties spans ≡ false

-- a pattern of the grammar with at most 8 groups and 2 '*' within each other, points of the three classes, and sets
-- that are among the first so many
pub record IsPattern (properties : Properties) (sets : ℕ) (p : Pattern) : Type 0 where
  pub whole : Is Whole p
  pub within : IsWithin 8 2 p
  pub known : HasItsSets sets p
  pub classes : has_bad_point properties p ≡ false

-- a definition that may stand among so many sets
abbrev pub HasParts : Properties → ℕ → Definition → Type 0
HasParts properties sets (definition.VariantType name) = Unit {0}
HasParts properties sets (definition.Set name spans) = IsSet properties spans
HasParts properties sets (definition.Rule name contexts) =
    IsPattern properties sets contexts × (is_rule_or_whole contexts ≡ true)
HasParts properties sets (definition.Demand kind p) = IsPattern properties sets p × (has sign.Anchor p ≡ false)
HasParts properties sets (definition.Action a) = IsAction a

-- a definition whose sets have these names, and whose canonical line has at most 8,192 bytes
pub record IsDefinition (properties : Properties) (names : List (List ℕ)) (x : Definition) : Type 0 where
  pub parts : HasParts properties (length names) x
  pub short : length (definition_text names x) ≤ 8192

-- at most 57 types beside those that are predefined, 256 sets, 256 rules, demands and actions, 4,096 atoms; no name is
-- given twice; actions name types and whole-label rules
pub record AreDefinitions (d : Definitions) : Type 0 where
  pub few_types : length d.types ≤ 57
  pub few_sets : length d.sets ≤ 256
  pub few_lines : rule_lines d ≤ 256
  pub few_atoms : all_atoms d ≤ 4096
  pub named_sets : length d.set_names ≡ length d.sets
  pub named_rules : length d.rule_names ≡ length d.rules
  pub names : AreNames (all_names d)
  pub known : AllByRecursion (λ a. knows_action (type_names d) (whole_rules d) a ≡ true) d.actions
  pub each : AllByRecursion (IsDefinition d.properties d.set_names) (all_definitions d)
