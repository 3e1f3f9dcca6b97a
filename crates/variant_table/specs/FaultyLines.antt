-- The first faulty line of a text, and what was read before it.
use Rattle.std.specs.Prelude.{◌≡◌, ◌⊎◌, ℕ, ◌+◌, Option, Some, None, List, [], ◌∷◌, length, Result, Ok, Err}
use Rattle.std.specs.Option.{option_map}
use Rattle.idn_text.specs.Lines.{raw_lines}
use Rattle.ruleset_text.specs.Definitions.{Definitions}
use Rattle.ruleset_text.specs.declared.fault.FaultPlace.{FaultPlace}
use Rattle.variant_table.specs.declared.fault.TableFault.{TableFault}
use Rattle.variant_table.specs.declared.fault.TableFault.TheVariants.{Memory}
use Rattle.variant_table.specs.declared.fault.TableRefusal.{TableRefusal}
use Rattle.variant_table.specs.declared.version.Notation.{Notation}
use Rattle.variant_table.specs.declared.version.Version.{Version}
use Rattle.variant_table.specs.Entries.{TableValue, empty_table}
use Rattle.variant_table.specs.Faults.{LineFault}
use Rattle.variant_table.specs.LinePlaces.{read_place}
use Rattle.variant_table.specs.Reading.{with_raw_line}
use Rattle.variant_table.specs.Versions.{version_of, head_of, body_of, size_of}
use Rattle.idn_class.specs.declared.properties.Properties.{Properties}

-- the version of the text, how many bytes and which definitions come before the line, and the line as it stands in the
-- text
pub record FaultyLine : Type 0 where
  pub version : Version
  pub bytes : ℕ
  pub definitions : Definitions
  pub line : List ℕ

abbrev pub at_line : ℕ → TableValue → List ℕ → FaultyLine
at_line bytes t line = record { version = t.version; bytes = bytes; definitions = t.definitions; line = line }

-- this line, if reading it fails; or what f finds after the table that it leads to
abbrev pub or_after : FaultyLine → (TableValue → Option FaultyLine) → Result TableValue LineFault → Option FaultyLine
or_after here f (Ok u) = f u
or_after here f (Err fault) = Some here

-- the first faulty one among lines that come after so many bytes, which spell the table t
unfoldable pub first_faulty : ℕ → TableValue → List (List ℕ) → Option FaultyLine
first_faulty bytes t [] = None
first_faulty bytes t (line ∷ lines) =
    or_after (at_line bytes t line) (λ u. first_faulty (bytes + length line + 1) u lines) (with_raw_line bytes t line)

-- that of a text; none where it spells a table, and where it lacks its version
abbrev pub faulty_after : Properties → Option Version → List (List ℕ) → List (List ℕ) → Option FaultyLine
faulty_after properties None head body = None
faulty_after properties (Some version) head body = first_faulty (size_of head) (empty_table properties version) body

unfoldable pub faulty_line : Properties → Notation → List ℕ → Option FaultyLine
faulty_line properties notation text =
    faulty_after properties (version_of notation (raw_lines text)) (head_of notation (raw_lines text))
    (body_of notation (raw_lines text))

abbrev pub place_in : TableFault → Option FaultyLine → Option FaultPlace
place_in fault None = None
place_in fault (Some f) = read_place f.definitions fault f.version f.bytes f.line

-- where the first faulty line of a text has the fault, if a place is told
abbrev pub fault_place : Properties → Notation → List ℕ → TableFault → Option FaultPlace
fault_place properties notation text fault = place_in fault (faulty_line properties notation text)

-- ---- what a call tells

-- the bytes of the line
abbrev pub line_of : Option FaultyLine → Option (List ℕ)
line_of faulty = option_map (λ f. f.line) faulty

abbrev pub line_in : TableRefusal → Option (List ℕ)
line_in refusal = option_map (λ line. line.now) refusal.line

-- the line that is told is the first faulty one of the text, and the place is one in it, unless memory was refused
abbrev pub IsRefusalOf : Properties → Notation → List ℕ → TableRefusal → Type 0
IsRefusalOf properties notation text refusal =
    (refusal.fault ≡ Memory)
    ⊎ ((line_in refusal ≡ line_of (faulty_line properties notation text))
    × (refusal.place ≡ fault_place properties notation text refusal.fault))
