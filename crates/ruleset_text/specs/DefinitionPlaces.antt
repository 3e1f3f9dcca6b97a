-- Where a line that is to define something has its fault. Places are bytes of the line, counted from 0.
use Rattle.std.specs.Prelude.{◌≡◌, ℕ, ◌-◌, ◌||◌, not, is_some, Option, Some, None, Result, Ok, Err, List, [], ◌∷◌}
use Rattle.std.specs.Prelude.{if◌then◌else◌}
use Rattle.label_patterns.specs.Patterns.{Pattern}
use Rattle.ruleset_text.specs.declared.definition_line.DefinitionLine.{DefinitionLine}
use Rattle.ruleset_text.specs.declared.fault.DefinitionFault.{DefinitionFault}
use Rattle.ruleset_text.specs.declared.fault.DefinitionFault.TheVariants as fault
use Rattle.ruleset_text.specs.declared.fault.FaultPlace.{FaultPlace}
use Rattle.ruleset_text.specs.declared.fault.LineFaults.{LineFaults}
use Rattle.ruleset_text.specs.Actions.{action_marks}
use Rattle.ruleset_text.specs.Definition as definition
use Rattle.ruleset_text.specs.Definition.{Definition}
use Rattle.ruleset_text.specs.DefinitionReading.{definition_read}
use Rattle.ruleset_text.specs.Definitions.{Definitions, all_atoms, has_bad_class, has_known_names, has_most}
use Rattle.ruleset_text.specs.Definitions.{is_one_too_many, type_names, whole_rules}
use Rattle.ruleset_text.specs.LineFaults.{first_bad, first_unknown, lexeme_place}
use Rattle.ruleset_text.specs.PatternLimits.{first_marked, limit_place}
use Rattle.ruleset_text.specs.PlacedLexemes.{Placed}
use Rattle.idn_class.specs.declared.properties.Properties.{Properties}

-- the first of these lexemes
abbrev pub first_place : List Placed → Option FaultPlace
first_place [] = None
first_place (w ∷ ws) = Some (lexeme_place w)

abbrev pub without_first : List Placed → List Placed
without_first [] = []
without_first (w ∷ ws) = ws

-- ---- what is known before a line

-- the names of the types, of the sets and of the whole-label rules; how many atoms patterns may still have; whose
-- classes are asked
pub record Known : Type 0 where
  pub types : List (List ℕ)
  pub sets : List (List ℕ)
  pub whole_rules : List (List ℕ)
  pub left : ℕ
  pub properties : Properties

-- after these definitions, of which all patterns together may have 4,096 atoms
abbrev pub known_after : Definitions → Known
known_after d =
    record {
      types = type_names d;
      sets = d.set_names;
      whole_rules = whole_rules d;
      left = 4096 - all_atoms d;
      properties = d.properties;
    }

-- ---- what the form doesn't show

-- of a pattern, where sets have these names, so many atoms may follow, and these classes are asked
abbrev pub pattern_faults : List (List ℕ) → ℕ → Properties → Pattern → List Placed → LineFaults
pattern_faults names left properties p ws =
    record { limit = limit_place left p ws; name = first_unknown names ws; class = first_bad properties ws }

-- of spans
abbrev pub span_faults : Properties → List Placed → LineFaults
span_faults properties ws = record { limit = None; name = None; class = first_bad properties ws }

-- of a definition, by the lexemes after its keyword
abbrev pub definition_faults : Known → Definition → List Placed → LineFaults
definition_faults k (definition.VariantType name) ws = record { limit = None; name = None; class = None }
definition_faults k (definition.Set name spans) ws = span_faults k.properties (without_first ws)
definition_faults k (definition.Rule name contexts) ws =
    pattern_faults k.sets k.left k.properties contexts (without_first ws)
definition_faults k (definition.Demand kind p) ws = pattern_faults k.sets k.left k.properties p ws
definition_faults k (definition.Action a) ws =
    record { limit = None; name = first_marked (action_marks k.types k.whole_rules a) ws; class = None }

abbrev pub faults_after : Definitions → Definition → List Placed → LineFaults
faults_after d x ws = definition_faults (known_after d) x ws

-- they are what is wrong with it: that it is one too many, as many as may be being defined of its kind or its pattern
-- being past a limit; that it names a set, a type or a rule that isn't defined; that it writes a code point that no
-- label has
pub record AreFaultsOf (d : Definitions) (x : Definition) (faults : LineFaults) : Type 0 where
  pub limit : is_one_too_many d x ≡ (has_most d x || is_some faults.limit)
  pub name : has_known_names d x ≡ not (is_some faults.name)
  pub class : has_bad_class d.properties x ≡ is_some faults.class

-- ---- the place

-- the keyword of a definition too many, or the lexeme with which its pattern goes past a limit; the first set, type or
-- rule that is none of those before; the first code point that no label has; the name that is given again. Of a
-- canonical line or text that is too long none is told
abbrev pub place_of : Definitions → DefinitionFault → FaultPlace → Definition → LineFaults → Option FaultPlace →
    Option FaultPlace
place_of d fault.Limit key x faults name = if has_most d x then Some key else faults.limit
place_of d fault.NoSuchName key x faults name = faults.name
place_of d fault.BadClass key x faults name = faults.class
place_of d fault.SameName key x faults name = name
place_of d f key x faults name = None

-- where the line stops defining something, if it does
abbrev pub place_by : Definitions → DefinitionFault → FaultPlace → List Placed → Result Definition FaultPlace →
    Option FaultPlace
place_by d f key ws (Ok x) = place_of d f key x (faults_after d x ws) (first_place ws)
place_by d fault.Syntax key ws (Err stop) = Some stop
place_by d f key ws (Err stop) = None

-- of a line with a keyword
abbrev pub definition_place : Definitions → DefinitionFault → DefinitionLine → Option FaultPlace
definition_place d f line =
    place_by d f line.place line.after (definition_read d.set_names line.keyword line.end line.after)
