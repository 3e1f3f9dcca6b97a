-- What the lexemes of a line define, read from the first one to the last, or where the line stops defining something.
-- Places are bytes of the line, counted from 0.
use Rattle.std.specs.Prelude.{ℕ, Bool, true, false, Option, Some, None, Result, Ok, Err, List, [], ◌∷◌, length}
use Rattle.std.specs.Prelude.{if◌then◌else◌}
use Rattle.label_patterns.specs.declared.span.Span.{Span}
use Rattle.label_patterns.specs.Patterns.{Pattern}
use Rattle.ruleset_text.specs.declared.definition.DemandKind.TheVariants as demand
use Rattle.ruleset_text.specs.declared.definition_line.DefinitionLine.{DefinitionLine}
use Rattle.ruleset_text.specs.declared.fault.FaultPlace.{FaultPlace}
use Rattle.ruleset_text.specs.declared.fault.FaultPlace.TheVariants.{Lexeme, End}
use Rattle.ruleset_text.specs.declared.keyword.Keyword.{Keyword}
use Rattle.ruleset_text.specs.declared.keyword.Keyword.TheVariants as keyword
use Rattle.ruleset_text.specs.declared.spans.Held.TheVariants as held
use Rattle.ruleset_text.specs.ActionSteps as actions
use Rattle.ruleset_text.specs.Actions.{NamedAction}
use Rattle.ruleset_text.specs.Definition.{Definition, VariantType, Set, Rule, Demand, Action, keyword_of}
use Rattle.ruleset_text.specs.LineStops.{map_read, read_from}
use Rattle.ruleset_text.specs.Names.{is_name}
use Rattle.ruleset_text.specs.PatternSigns.{State, start, step_in, ended_in}
use Rattle.ruleset_text.specs.PlacedLexemes.{Placed}
use Rattle.ruleset_text.specs.Spans as spans
use Rattle.ruleset_text.specs.Spans.{part_of}
use Rattle.ruleset_text.specs.Tokens.{token_of}

-- the contexts of a context rule, or the pattern of a whole-label rule or of a demand; its sets go by their numbers
-- among these names
abbrev pub pattern_step : Bool → List (List ℕ) → State → List ℕ → Option State
pattern_step is_rule names s w = step_in is_rule s (token_of names w)

abbrev pub pattern_read : Bool → List (List ℕ) → ℕ → List Placed → Result Pattern FaultPlace
pattern_read is_rule names end ws = read_from (pattern_step is_rule names) (ended_in is_rule) end start ws

-- the spans of a set
abbrev pub spans_step : spans.State → List ℕ → Option spans.State
spans_step s w = spans.step s.spans s.held (part_of w)

abbrev pub spans_ended : spans.State → Option (List Span)
spans_ended s = spans.ended s.spans s.held

abbrev pub spans_read : ℕ → List Placed → Result (List Span) FaultPlace
spans_read end ws = read_from spans_step spans_ended end (spans.state [] (held.Above 0)) ws

-- a name, and the lexemes after it
abbrev pub name_read : ℕ → List Placed → Result (List ℕ × List Placed) FaultPlace
name_read end [] = Err (End end)
name_read end (w ∷ ws) = if is_name w.lexeme then Ok (w.lexeme, ws) else Err (Lexeme w.place (length w.lexeme))

abbrev pub after_name : (List ℕ → List Placed → Result Definition FaultPlace) →
    Result (List ℕ × List Placed) FaultPlace → Result Definition FaultPlace
after_name f (Ok r) = f r.0 r.1
after_name f (Err place) = Err place

-- what f reads after a name
abbrev pub named : (List ℕ → List Placed → Result Definition FaultPlace) → ℕ → List Placed →
    Result Definition FaultPlace
named f end ws = after_name f (name_read end ws)

-- a type has nothing more, a set its spans, a rule its pattern
abbrev pub type_read : ℕ → List ℕ → List Placed → Result Definition FaultPlace
type_read end name [] = Ok (VariantType name)
type_read end name (w ∷ ws) = Err (Lexeme w.place (length w.lexeme))

abbrev pub set_read : ℕ → List ℕ → List Placed → Result Definition FaultPlace
set_read end name ws = map_read (Set name) (spans_read end ws)

abbrev pub rule_read : Bool → List (List ℕ) → ℕ → List ℕ → List Placed → Result Definition FaultPlace
rule_read is_rule names end name ws = map_read (Rule name) (pattern_read is_rule names end ws)

-- an action
abbrev pub action_read : ℕ → List Placed → Result NamedAction FaultPlace
action_read end ws = read_from actions.step actions.ended end actions.Begin ws

-- what the lexemes after a keyword define
abbrev pub definition_read : List (List ℕ) → Keyword → ℕ → List Placed → Result Definition FaultPlace
definition_read names keyword.VariantType end ws = named (type_read end) end ws
definition_read names keyword.Set end ws = named (set_read end) end ws
definition_read names keyword.Rule end ws = named (rule_read true names end) end ws
definition_read names keyword.Whole end ws = named (rule_read false names end) end ws
definition_read names keyword.Never end ws = map_read (Demand demand.Never) (pattern_read false names end ws)
definition_read names keyword.Always end ws = map_read (Demand demand.Always) (pattern_read false names end ws)
definition_read names keyword.Action end ws = map_read Action (action_read end ws)

-- those of a line, the first of which is the keyword
abbrev pub after_keyword : List (List ℕ) → ℕ → Placed → List Placed → Option Keyword → Result Definition FaultPlace
after_keyword names end w ws None = Err (Lexeme w.place (length w.lexeme))
after_keyword names end w ws (Some k) = definition_read names k end ws

abbrev pub line_read : List (List ℕ) → ℕ → List Placed → Result Definition FaultPlace
line_read names end [] = Err (End end)
line_read names end (w ∷ ws) = after_keyword names end w ws (keyword_of w.lexeme)

-- ---- a line by its keyword

abbrev pub begun_at : ℕ → Placed → List Placed → Option Keyword → Result DefinitionLine FaultPlace
begun_at end w ws None = Err (Lexeme w.place (length w.lexeme))
begun_at end w ws (Some k) =
    Ok (record { keyword = k; place = Lexeme w.place (length w.lexeme); after = ws; end = end })

abbrev pub begun_by : ℕ → List Placed → Result DefinitionLine FaultPlace
begun_by end [] = Err (End end)
begun_by end (w ∷ ws) = begun_at end w ws (keyword_of w.lexeme)
