-- Reading as a function, line by line over the table so far.
use Rattle.std.specs.Prelude.{ℕ, ◌+◌, Bool, true, ◌==◌, Option, Some, None, List, [], ◌∷◌, ◌++◌, length, Result, Ok}
use Rattle.std.specs.Prelude.{Err, if◌then◌else◌}
use Rattle.std.specs.List.{list_any}
use Rattle.std.specs.Str.Lines.{strip_carriage_return}
use Rattle.idn_text.specs.Lines.{raw_lines}
use Rattle.ruleset_text.specs.declared.fault.DefinitionFault.{DefinitionFault}
use Rattle.ruleset_text.specs.declared.keyword.Keyword.{Keyword}
use Rattle.ruleset_text.specs.Definitions.{Definitions, defined}
use Rattle.ruleset_text.specs.Entries.{EntryForm}
use Rattle.ruleset_text.specs.EntrySteps.{entry_in}
use Rattle.ruleset_text.specs.Lexemes.{is_blank, lexemes}
use Rattle.variant_table.specs.declared.version.Notation.{Notation}
use Rattle.variant_table.specs.declared.version.Version.{Version}
use Rattle.variant_table.specs.Entries.{Entry, TableValue, empty_table}
use Rattle.variant_table.specs.DefinitionLines.{keyword_in, line_fault, room_for_definitions}
use Rattle.variant_table.specs.Faults.{LineFault, Limit, Syntax, BadClass, SameVariant, SameSource, NoSuchName}
use Rattle.variant_table.specs.Forms.{has_form, written_out, knows_all, entries_of}
use Rattle.variant_table.specs.Versions.{version_of, head_of, body_of, size_of}
use Rattle.variant_table.specs.Conditions.{is_too_long, is_over_limit, has_bad_class, has_repeat, has_source_in}
use Rattle.idn_class.specs.declared.properties.Properties.{Properties}

-- ---- answers

-- what f makes of an answer, or the fault
infixl 10 ◌>>=◌
abbrev pub ◌>>=◌ : {A B F : Type 0} → Result A F → (A → Result B F) → Result B F
(Ok x) >>= f = f x
(Err e) >>= f = Err e

-- ---- the entries of a line

-- nothing but blanks, or a comment
abbrev pub is_skipped : List ℕ → Bool
is_skipped [] = true
is_skipped (c ∷ cs) = if is_blank c then is_skipped cs else c == 35

-- the form, if there is one and the version has it
abbrev pub form_by : Version → Option EntryForm → Result EntryForm LineFault
form_by version None = Err Syntax
form_by version (Some form) = if has_form version form then Ok form else Err Syntax

-- that of a line's lexemes
abbrev pub form_in : Version → List (List ℕ) → Result EntryForm LineFault
form_in version words = form_by version (entry_in words)

-- the entries of a form, if its names are defined
abbrev pub named_entries : Definitions → EntryForm → Result (List Entry) LineFault
named_entries definitions form =
    if knows_all definitions form.mapped then Ok (entries_of definitions form) else Err NoSuchName

-- ---- the table so far

-- the entries of a table with further ones
unfoldable pub with_entries : Properties → List Entry → List Entry → Result (List Entry) LineFault
with_entries properties table entries =
    if list_any (has_bad_class properties) entries then Err BadClass else
    if list_any has_repeat entries then Err SameVariant else
    if list_any (has_source_in table) entries then Err SameSource else
    Ok (table ++ entries)

-- the same with those of a form
unfoldable pub with_form : Version → Definitions → List Entry → EntryForm → Result (List Entry) LineFault
with_form version definitions table form =
    if is_over_limit version definitions table (written_out form) then Err Limit else
    named_entries definitions form >>= with_entries definitions.properties table

-- the same with those of a line's lexemes
abbrev pub with_entry_words : Version → Definitions → List Entry → List (List ℕ) → Result (List Entry) LineFault
with_entry_words version definitions table words = form_in version words >>= with_form version definitions table

abbrev pub with_form_of : TableValue → EntryForm → Result TableValue LineFault
with_form_of t form = with_form t.version t.definitions t.entries form >>= λ all. Ok (record t { entries = all })

-- the table with these definitions, or with their fault
abbrev pub defining : TableValue → Result Definitions DefinitionFault → Result TableValue LineFault
defining t (Ok definitions) = Ok (record t { definitions = definitions })
defining t (Err fault) = Err (line_fault fault)

-- the table with what a keyword and the lexemes after it define
unfoldable pub with_definition : TableValue → Keyword → List (List ℕ) → Result TableValue LineFault
with_definition t keyword words = defining t (defined (room_for_definitions t) t.definitions keyword words)

-- the table with what lexemes say: a definition, if they begin with a keyword, or else entries
abbrev pub with_words : TableValue → Option (Keyword × List (List ℕ)) → List (List ℕ) → Result TableValue LineFault
with_words t None words = form_in t.version words >>= with_form_of t
with_words t (Some (keyword, after)) words = with_definition t keyword after

-- the table with what a line adds
unfoldable pub with_line : TableValue → List ℕ → Result TableValue LineFault
with_line t line = if is_skipped line then Ok t else with_words t (keyword_in t.version (lexemes line)) (lexemes line)

-- the same for a line as it stands in the text, after so many bytes
unfoldable pub with_raw_line : ℕ → TableValue → List ℕ → Result TableValue LineFault
with_raw_line bytes t line =
    if is_too_long t.version bytes line then Err Limit else with_line t (strip_carriage_return line)

-- a fault with the number of its line
abbrev pub in_line : {A : Type 0} → ℕ → Result A LineFault → Result A (ℕ × LineFault)
in_line number (Ok x) = Ok x
in_line number (Err fault) = Err (number, fault)

-- the table with what lines add; the first of them has this number and comes after so many bytes
unfoldable pub with_lines : ℕ → ℕ → TableValue → List (List ℕ) → Result TableValue (ℕ × LineFault)
with_lines number bytes table [] = Ok table
with_lines number bytes table (line ∷ lines) =
    in_line number (with_raw_line bytes table line) >>= λ t. with_lines (number + 1) (bytes + length line + 1) t lines

-- the table that lines spell after their version line, if they have a version
abbrev pub table_in : Properties → Option Version → List (List ℕ) → List (List ℕ) → Result TableValue (ℕ × LineFault)
table_in properties None head body = Err (1, Syntax)
table_in properties (Some version) head body =
    with_lines (length head + 1) (size_of head) (empty_table properties version) body

-- the table that lines spell, the first of which may be a version line
unfoldable pub table_of_lines : Properties → Notation → List (List ℕ) → Result TableValue (ℕ × LineFault)
table_of_lines properties notation lines =
    table_in properties (version_of notation lines) (head_of notation lines) (body_of notation lines)

-- the table that a text spells, or the line and the kind of its first fault
abbrev pub table_of_text : Properties → Notation → List ℕ → Result TableValue (ℕ × LineFault)
table_of_text properties notation text = table_of_lines properties notation (raw_lines text)
