-- Where a line of a text has its fault. Places are bytes of the line, counted from 0.
use Rattle.std.specs.Prelude.{◌≡◌, ◌⊎◌, ℕ, ◌+◌, nat_lt, Option, Some, None, Result, Ok, Err, List, [], ◌∷◌, find}
use Rattle.std.specs.Prelude.{is_some, not, length, slice_index, if◌then◌else◌}
use Rattle.std.specs.List.{list_any, range_with_len}
use Rattle.std.specs.Result.{result_ok}
use Rattle.std.specs.Str.Lines.{strip_carriage_return}
use Rattle.ruleset_text.specs.declared.definition_line.DefinitionLine.{DefinitionLine}
use Rattle.ruleset_text.specs.declared.fault.DefinitionFault.TheVariants as definitions
use Rattle.ruleset_text.specs.declared.fault.FaultPlace.{FaultPlace}
use Rattle.ruleset_text.specs.declared.fault.LineFaults.{LineFaults}
use Rattle.ruleset_text.specs.declared.fault.FaultPlace.TheVariants.{Byte}
use Rattle.ruleset_text.specs.DefinitionOrder.{IsDefinitionLine}
use Rattle.ruleset_text.specs.DefinitionPlaces as places
use Rattle.ruleset_text.specs.DefinitionReading.{begun_by}
use Rattle.ruleset_text.specs.Definitions.{Definitions}
use Rattle.idn_class.specs.declared.properties.Properties.{Properties}
use Rattle.ruleset_text.specs.Classes.{is_bad_point}
use Rattle.ruleset_text.specs.Entries.{EntryForm, Mapped}
use Rattle.ruleset_text.specs.EntryFaults.{Notes, notes_of, range_place, source_place, variant_place}
use Rattle.ruleset_text.specs.EntrySteps.{entry_read}
use Rattle.ruleset_text.specs.EntryStops.{IsEntryStop}
use Rattle.ruleset_text.specs.LineStops.{IsLineStop}
use Rattle.ruleset_text.specs.PlacedLexemes.{placed_lexemes}
use Rattle.variant_table.specs.declared.fault.TableFault.{TableFault}
use Rattle.variant_table.specs.declared.fault.TableFault.TheVariants as tables
use Rattle.variant_table.specs.declared.version.Version.{Version}
use Rattle.variant_table.specs.declared.version.Version.TheVariants.{One, Two, Three}
use Rattle.variant_table.specs.Conditions.{given_again, has_bad_class, is_too_large}
use Rattle.variant_table.specs.Forms.{entries_of, entry_of, knows_all, parts_of, written_out}
use Rattle.variant_table.specs.Ranges.{range_size}
use Rattle.variant_table.specs.Limits.{line_limit, text_limit}

-- a line by its keyword, if it begins with one; versions 1 and 2 have none
abbrev pub definition_line : Version → List ℕ → Option DefinitionLine
definition_line One line = None
definition_line Two line = None
definition_line Three line = result_ok (begun_by (length line) (placed_lexemes line))

-- of a line that is to define something, after these definitions
abbrev pub definition_place : Definitions → TableFault → DefinitionLine → Option FaultPlace
definition_place d (tables.Syntax number) line = places.definition_place d definitions.Syntax line
definition_place d (tables.Limit number) line = places.definition_place d definitions.Limit line
definition_place d (tables.NoSuchName number) line = places.definition_place d definitions.NoSuchName line
definition_place d (tables.BadClass number) line = places.definition_place d definitions.BadClass line
definition_place d (tables.SameName number) line = places.definition_place d definitions.SameName line
definition_place d fault line = None

-- the first code point of a range that no table may hold
abbrev pub bad_in : Properties → List Mapped → ℕ → Option ℕ
bad_in properties [] last = None
bad_in properties (m ∷ mapped) last =
    find (is_bad_point properties) (range_with_len (slice_index m.points 0) (range_size (slice_index m.points 0) last))

abbrev pub class_by : Definitions → List Mapped → Option ℕ → Notes → Option FaultPlace
class_by d mapped None notes = notes.faults.class
class_by d mapped (Some last) notes = range_place notes.begins (bad_in d.properties mapped last)

-- it is told where the range begins; in an entry, where it stands
abbrev pub class_place : Definitions → EntryForm → Notes → Option FaultPlace
class_place d form notes = class_by d form.mapped form.last notes

-- of an entry or a range, by what is noted of its line: what goes past a limit, if it isn't the number of all entries
-- or the canonical text; a type or a rule that isn't defined; a code point that no table may hold; where the first
-- variant begins that is given again; and where the source does
abbrev pub form_place : Definitions → TableFault → EntryForm → Notes → Option FaultPlace
form_place d (tables.Limit number) form notes = notes.faults.limit
form_place d (tables.NoSuchName number) form notes = notes.faults.name
form_place d (tables.BadClass number) form notes = class_place d form notes
form_place d (tables.SameVariant number) form notes = variant_place notes.begins (given_again (entry_of d form.mapped))
form_place d (tables.SameSource number) form notes = source_place notes.begins
form_place d fault form notes = None

-- the faults that are noted are those that an entry or a range has; the class of the code points of a range is asked
-- for by itself
pub record AreFaultsOf (d : Definitions) (form : EntryForm) (faults : LineFaults) : Type 0 where
  pub limit : is_some faults.limit ≡ list_any is_too_large (written_out form)
  pub name : is_some faults.name ≡ not (knows_all d form.mapped)
  pub class : form.last ≡ None → is_some faults.class ≡ list_any (has_bad_class d.properties) (entries_of d form)

-- of another line: that, or where it stops being an entry or a range of the version
abbrev pub read_by : Definitions → TableFault → List ℕ → Result EntryForm FaultPlace → Option FaultPlace
read_by d fault line (Ok form) = form_place d fault form (notes_of d form line)
read_by d (tables.Syntax number) line (Err stop) = Some stop
read_by d fault line (Err stop) = None

abbrev pub entry_place : Definitions → TableFault → Version → List ℕ → Option FaultPlace
entry_place d fault version line = read_by d fault line (entry_read (parts_of version) line)

abbrev pub place_by : Definitions → TableFault → Version → List ℕ → Option DefinitionLine → Option FaultPlace
place_by d fault version line None = entry_place d fault version line
place_by d fault version line (Some defining) = definition_place d fault defining

-- of any line, after these definitions
abbrev pub body_place : Definitions → TableFault → Version → List ℕ → Option FaultPlace
body_place d fault version line = place_by d fault version line (definition_line version line)

-- of a line as it stands in the text, after so many bytes: the first byte past its limit; none, if only the text is
-- past its own; or else what is told of it less one carriage return at its end
abbrev pub read_place : Definitions → TableFault → Version → ℕ → List ℕ → Option FaultPlace
read_place d fault version bytes line =
    if nat_lt (line_limit version) (length line) then Some (Byte (line_limit version)) else
    if nat_lt (text_limit version) (bytes + length line + 1) then None else
    body_place d fault version (strip_carriage_return line)

-- ---- what it is

-- no definition goes on with the lexeme, or no entry and no range of the version does; or some goes on, and the line
-- ends. Sets have these names
abbrev pub IsSyntaxPlace : List (List ℕ) → Version → List ℕ → FaultPlace → Type 0
IsSyntaxPlace names version line place =
    ((defining : DefinitionLine) × (definition_line version line ≡ Some defining)
    × IsLineStop (IsDefinitionLine names) (placed_lexemes line) (length line) place)
    ⊎ ((definition_line version line ≡ None) × IsEntryStop (parts_of version) line place)
