-- The cause that is told of the fault of a table, where causes are wanted: where its line has it. Places are bytes,
-- counted from 0.
use Rattle.std.specs.Prelude.{ℕ, nat_le, Bool, false, ◌==◌, ◌&&◌, List, [], ◌∷◌, take, drop, length, bytes_eq, Option}
use Rattle.std.specs.Prelude.{Some, None, if◌then◌else◌}
use Rattle.std.specs.List.{list_all}
use Rattle.std.specs.Option.{option_map}
use Rattle.idn_class.specs.declared.properties.Properties.{Properties}
use Rattle.variant_table.specs.declared.fault.TableFault.{TableFault}
use Rattle.variant_table.specs.declared.fault.TableFault.TheVariants.{Syntax}
use Rattle.ruleset_text.specs.declared.fault.FaultPlace.{FaultPlace}
use Rattle.ruleset_text.specs.declared.fault.FaultPlace.TheVariants.{Lexeme}
use Rattle.variant_table.specs.declared.version.Notation.{Notation}
use Rattle.variant_table.specs.FaultyLines.{fault_place, faulty_line, line_of}
use Rattle.idn2_refusals.specs.declared.cause.LineCause.{LineCause}
use Rattle.idn2_refusals.specs.declared.cause.LineCause.TheVariants.{OfTable, ByteOrderMark}

-- a byte of ASCII that is seen where it is printed
abbrev pub is_visible : ℕ → Bool
is_visible c = nat_le 33 c && nat_le c 126

-- a lexeme of at most 32 such bytes
abbrev pub may_be_quoted : List ℕ → Bool
may_be_quoted lexeme = nat_le (length lexeme) 32 && list_all is_visible lexeme

-- that lexeme, and nothing of another one
abbrev pub quoted : List ℕ → List ℕ
quoted lexeme = if may_be_quoted lexeme then lexeme else []

-- what is quoted of the line of a fault: the lexeme that can't stand there
abbrev pub quoted_at : List ℕ → FaultPlace → List ℕ
quoted_at line (Lexeme place len) = quoted (take len (drop place line))
quoted_at line _ = []

abbrev pub cause_at : List ℕ → FaultPlace → LineCause
cause_at line place = OfTable place (record { items = quoted_at line place })

-- U+FEFF stands at the head of a text (RFC 3629, section 6)
abbrev pub begins_with_mark : List ℕ → Bool
begins_with_mark text = bytes_eq (take 3 text) (0xEF ∷ 0xBB ∷ 0xBF ∷ [])

-- the first line can't be read
abbrev pub is_syntax_of_first : TableFault → Bool
is_syntax_of_first (Syntax line) = line == 1
is_syntax_of_first fault = false

-- the place on the line, if one is told
abbrev pub line_cause : Option FaultPlace → Option (List ℕ) → Option LineCause
line_cause place None = None
line_cause place (Some line) = option_map (cause_at line) place

-- the cause of the fault of a text, whose first faulty line this is: a byte order mark, or the place
abbrev pub refusal_cause : List ℕ → TableFault → Option FaultPlace → Option (List ℕ) → Option LineCause
refusal_cause text fault place line =
    if begins_with_mark text && is_syntax_of_first fault then Some ByteOrderMark else line_cause place line

-- that of a text
abbrev pub fault_cause : Properties → Notation → List ℕ → TableFault → Option LineCause
fault_cause properties notation text fault =
    refusal_cause text fault (fault_place properties notation text fault)
    (line_of (faulty_line properties notation text))

-- a cause, if causes are wanted
abbrev pub told_if : Bool → Option LineCause → Option LineCause
told_if wanted cause = if wanted then cause else None
