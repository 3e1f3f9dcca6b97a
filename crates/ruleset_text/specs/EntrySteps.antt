-- Reading the form of an entry or of a range, from the first lexeme to the last.
use Rattle.std.specs.Prelude.{ℕ, nat_le, ◌==◌, ◌&&◌, not, Bool, true, false, Option, Some, None, is_some, List, [], ◌∷◌}
use Rattle.std.specs.Prelude.{◌++◌, length, slice_index, bytes_eq, codes, map, if◌then◌else◌, Result}
use Rattle.label_patterns.specs.declared.condition.ConditionKind.{ConditionKind}
use Rattle.label_patterns.specs.declared.condition.ConditionKind.TheVariants as condition
use Rattle.ruleset_text.specs.declared.entry_parts.EntryParts.{EntryParts}
use Rattle.ruleset_text.specs.declared.entry_reading.EntryState as reading
use Rattle.ruleset_text.specs.declared.entry_reading.EntryWord.{EntryWord}
use Rattle.ruleset_text.specs.declared.entry_reading.EntryWord.TheVariants as word
use Rattle.ruleset_text.specs.declared.entry_reading.Phase.{Phase}
use Rattle.ruleset_text.specs.declared.entry_reading.Phase.TheVariants as phase
use Rattle.ruleset_text.specs.declared.fault.FaultPlace.{FaultPlace}
use Rattle.ruleset_text.specs.Entries.{Mapped, EntryForm}
use Rattle.ruleset_text.specs.EntryForms.{mapped}
use Rattle.ruleset_text.specs.EntryWords.{point_of}
use Rattle.ruleset_text.specs.LineStops.{read_from}
use Rattle.ruleset_text.specs.Names.{is_name}
use Rattle.ruleset_text.specs.PlacedLexemes.{placed_lexemes}

-- what was read: those that are complete, the one that isn't, the last code point of a range, and what was read last
pub record State : Type 0 where
  pub done : List Mapped
  pub current : Mapped
  pub last : Option ℕ
  pub phase : Phase

-- what the state in memory is seen as
abbrev pub state : reading.EntryState → State
state s = record { done = map mapped s.done.items; current = mapped s.current; last = s.last; phase = s.phase }

abbrev pub nothing : Mapped
nothing = record { marked = false; points = []; type_name = None; condition = None }

abbrev pub start : State
start = record { done = []; current = nothing; last = None; phase = phase.Begin }

abbrev pub word_of : List ℕ → EntryWord
word_of w =
    if bytes_eq w (codes "!") then word.Mark else
    if bytes_eq w (codes "-") then word.Hyphen else
    if bytes_eq w (codes "|") then word.Bar else
    if bytes_eq w (codes ":") then word.Colon else
    if bytes_eq w (codes "..") then word.Range else
    if bytes_eq w (codes "as") then word.As else
    if bytes_eq w (codes "when") then word.When else
    if bytes_eq w (codes "unless") then word.Unless else word.Other

abbrev pub with_phase : State → Phase → State
with_phase s p = record s { phase = p }

-- ---- sequences and ranges

-- '!' before it
abbrev pub marked : State → State
marked s = record s { current = record s.current { marked = true }; phase = phase.Mark }

-- a code point more
abbrev pub at_point : State → Option ℕ → Option State
at_point s None = None
at_point s (Some c) =
    Some (record s { current = record s.current { points = s.current.points ++ c ∷ [] }; phase = phase.Point })

abbrev pub begin_by : State → EntryWord → List ℕ → Option State
begin_by s word.Mark w = Some (marked s)
begin_by s e w = at_point s (point_of w)

abbrev pub begin : State → List ℕ → Option State
begin s w = begin_by s (word_of w) w

-- all that was read is one code point
abbrev pub is_first : List Mapped → Bool
is_first [] = true
is_first (m ∷ done) = false

abbrev pub may_be_range : State → Bool
may_be_range s = is_first s.done && length s.current.points == 1

-- the last code point of a range, which is not below the first
abbrev pub at_last : State → Option ℕ → Option State
at_last s None = None
at_last s (Some c) =
    if nat_le (slice_index s.current.points 0) c then Some (record s { last = Some c; phase = phase.Last }) else None

-- ---- types, conditions, separators

-- '|' after the source and ':' after a variant; nothing after a range
abbrev pub with_done : State → State
with_done s = record { done = s.done ++ s.current ∷ []; current = nothing; last = s.last; phase = phase.Begin }

abbrev pub separated : State → EntryWord → Option State
separated s word.Bar = if is_first s.done then Some (with_done s) else None
separated s word.Colon = if is_first s.done then None else Some (with_done s)
separated s e = None

abbrev pub after_rule : State → EntryWord → Option State
after_rule s w = if is_some s.last then None else separated s w

-- 'when' or 'unless', or what may stand after a condition
abbrev pub after_type : State → EntryWord → Option State
after_type s word.When = Some (with_phase s phase.When)
after_type s word.Unless = Some (with_phase s phase.Unless)
after_type s e = after_rule s e

-- 'as', unless '!' stands before; or what may stand after a type
abbrev pub after_points : State → EntryWord → Option State
after_points s word.As = if s.current.marked then None else Some (with_phase s phase.As)
after_points s e = after_type s e

abbrev pub after_point : State → EntryWord → Option State
after_point s word.Hyphen = Some (with_phase s phase.Hyphen)
after_point s word.Range = if may_be_range s then Some (with_phase s phase.Range) else None
after_point s e = after_points s e

-- the name of a type
abbrev pub at_type : State → List ℕ → Option State
at_type s w =
    if is_name w then Some (record s { current = record s.current { type_name = Some w }; phase = phase.VariantType })
    else None

-- the rule of a condition
abbrev pub at_rule : State → ConditionKind → List ℕ → Option State
at_rule s kind w =
    if is_name w
    then Some
    (record s
    { current = record s.current { condition = Some (record { kind = kind; rule = w }) }; phase = phase.Rule })
    else None

-- ---- all lexemes

abbrev pub step_by : Phase → State → List ℕ → Option State
step_by phase.Begin s w = begin s w
step_by phase.Mark s w = at_point s (point_of w)
step_by phase.Point s w = after_point s (word_of w)
step_by phase.Hyphen s w = at_point s (point_of w)
step_by phase.Range s w = at_last s (point_of w)
step_by phase.Last s w = after_points s (word_of w)
step_by phase.As s w = at_type s w
step_by phase.VariantType s w = after_type s (word_of w)
step_by phase.When s w = at_rule s condition.When w
step_by phase.Unless s w = at_rule s condition.Unless w
step_by phase.Rule s w = after_rule s (word_of w)

-- the state with a lexeme more, if it may stand there
abbrev pub step : State → List ℕ → Option State
step s w = step_by s.phase s w

-- nothing of the line was read
abbrev pub is_begin : Phase → Bool
is_begin phase.Begin = true
is_begin e = false

abbrev pub is_new : State → Bool
is_new s = is_first s.done && is_begin s.phase

-- the word is of none of the parts: '!' before the source, with which a line begins, or before a variant; '..'; a word
-- of types or conditions
abbrev pub is_lacking : EntryParts → Bool → EntryWord → Bool
is_lacking parts true word.Mark = not parts.invalid
is_lacking parts false word.Mark = not parts.blocked
is_lacking parts first word.Range = not parts.ranges
is_lacking parts first word.As = not parts.named
is_lacking parts first word.When = not parts.named
is_lacking parts first word.Unless = not parts.named
is_lacking parts first e = false

-- the same in an entry or a range with no other parts
abbrev pub step_in : EntryParts → State → List ℕ → Option State
step_in parts s w = if is_lacking parts (is_new s) (word_of w) then None else step s w

abbrev pub stepped : Option State → List ℕ → Option State
stepped None w = None
stepped (Some s) w = step s w

abbrev pub state_after : Option State → List (List ℕ) → Option State
state_after s [] = s
state_after s (w ∷ ws) = state_after (stepped s w) ws

-- nothing is left open
abbrev pub is_complete : Phase → Bool
is_complete phase.Point = true
is_complete phase.Last = true
is_complete phase.VariantType = true
is_complete phase.Rule = true
is_complete e = false

abbrev pub ended : State → Option EntryForm
ended s = if is_complete s.phase then Some (record { mapped = s.done ++ s.current ∷ []; last = s.last }) else None

abbrev pub entry_at : Option State → Option EntryForm
entry_at None = None
entry_at (Some s) = ended s

-- the entry or the range that lexemes spell, if they spell one
unfoldable pub entry_in : List (List ℕ) → Option EntryForm
entry_in words = entry_at (state_after (Some start) words)

-- the entry or the range with no other parts that a line spells, or where the line stops being one
unfoldable pub entry_read : EntryParts → List ℕ → Result EntryForm FaultPlace
entry_read parts line = read_from (step_in parts) ended (length line) start (placed_lexemes line)
