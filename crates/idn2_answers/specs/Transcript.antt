-- The transcript of a run: all that it writes where nothing fails, line by line.
use Rattle.std.specs.Prelude.{◌≡◌, ◌⊎◌, ◌==◌, ℕ, ◌+◌, Bool, true, false, not, if◌then◌else◌}
use Rattle.std.specs.Prelude.{Option, Some, None, Result, Ok, Err}
use Rattle.std.specs.Prelude.{List, [], ◌∷◌, ◌++◌, length, map}
use Rattle.std.specs.List.{flat_map, list_any}
use Rattle.std.specs.Result.{is_err}
use Rattle.idn_class.specs.declared.properties.Properties.{Properties}
use Rattle.idn_class.specs.declared.properties.Properties.TheVariants.{Profile}
use Rattle.idn_text.specs.declared.refusal.Refusal.{Refusal}
use Rattle.variant_table.specs.declared.version.Version.TheVariants.{One}
use Rattle.variant_table.specs.Entries.{Entry, TableValue, empty_table}
use Rattle.variant_table.specs.Canonical.{table_text}
use Rattle.variant_table.specs.declared.version.Notation.{Notation}
use Rattle.variant_table.specs.declared.version.Notation.TheVariants.{Table, Ruleset}
use Rattle.variant_table.specs.Texts.{IsTextOf, IsFaultOf, IsLineOfEntry}
use Rattle.variant_table.specs.Faults.{LineFault, table_fault as fault_of_line}
use Rattle.variant_list.specs.Reversed.{IsCrowded, IsCrowdedAt}
use Rattle.xml_text.specs.Files.{begins_as_xml}
use Rattle.lgr_table.specs.Texts.{IsTableOfText, IsToldOf}
use Rattle.lgr_table.specs.declared.fault.TableError.TheVariants.{Fault}
use Rattle.lgr_table.specs.declared.fault.TableFault.{TableFault}
use Rattle.lgr_table.specs.declared.fault.TableFault.TheVariants as lgr
use Rattle.idn2_options.specs.declared.command_line.mode.Mode.{Mode}
use Rattle.idn2_options.specs.declared.command_line.mode.Mode.TheVariants.{Lookup, Register, Decode, DecodeOld}
use Rattle.idn2_options.specs.declared.command_line.mode.Mode.TheVariants.{Variants, Jump, CheckTable, PrintTable}
use Rattle.idn_text.specs.Lines.{Numbered}
use Rattle.variant_table.specs.Differences.{differences_of, AreDifferencesOf}
use Rattle.variant_table.specs.Gaps.{gaps_of, AreGapsOf}
use Rattle.variant_table.specs.IdleTypes.{idle_types}
use Rattle.answer_json.specs.declared.checked.PairFinding.TheVariants.{Missing, Differs}
use Rattle.idn2_options.specs.Settings.{Settings, tells_causes}
use Rattle.idn2_answers.specs.Answers.{LineAnswer, mode_answer, line_answer}
use Rattle.idn2_refusals.specs.Explained.{Unexplained, ByLabel, ByName, ByQuery, ByTable, ByRequest, if_wanted}
use Rattle.idn2_refusals.specs.Explained.{Explained, body_cause}
use Rattle.idn2_refusals.specs.TableCauses.{fault_cause, told_if}
use Rattle.idn2_refusals.specs.Messages.{refusal_line, fault_line}
use Rattle.idn2_output.specs.OutputLines.{OutputLine, Output, outputs}
use Rattle.idn2_answers.specs.Said.{Said, Finding, Found, Idle, Counted, said_text, finding_text}
use Rattle.idn2_refusals.specs.declared.cause.LineCause.{LineCause}
use Rattle.answer_json.specs.Objects.{refused}
use Rattle.idn2_options.specs.declared.command_line.form.Form.{Form}
use Rattle.idn2_output.specs.declared.status.Status.{Status}
use Rattle.idn2_output.specs.declared.status.Status.TheVariants.{Clean, Refused, Unusable}
use Rattle.idn_text.specs.declared.refusal.Refusal.TheVariants as refusals
use Rattle.variant_table.specs.Faults as faults

-- ---- the table of a run

-- a table, or the line of its first fault, from 1, the fault, and its cause, if there is one
abbrev pub TableGiven : Type 0
TableGiven = Result TableValue (ℕ × Refusal × Option LineCause)

-- the table of a mode that names none
abbrev pub no_table : TableValue
no_table = empty_table Profile One

-- a ruleset in XML (RFC 7940) in place of lines
abbrev pub is_in_xml : Notation → List ℕ → Bool
is_in_xml Table text = false
is_in_xml Ruleset text = begins_as_xml text

-- the fault of a line of a table as a refusal
abbrev pub table_refusal : LineFault → Refusal
table_refusal faults.Limit = refusals.Limit
table_refusal faults.Syntax = refusals.Syntax
table_refusal faults.BadClass = refusals.BadClass
table_refusal faults.SameVariant = refusals.SameVariant
table_refusal faults.SameSource = refusals.SameSource
table_refusal faults.NoSuchName = refusals.NoSuchName
table_refusal faults.SameName = refusals.SameName

-- that of a ruleset in XML
abbrev pub ruleset_refusal : TableFault → Refusal
ruleset_refusal lgr.Syntax = refusals.Syntax
ruleset_refusal lgr.SameSource = refusals.SameSource
ruleset_refusal lgr.SameVariant = refusals.SameVariant
ruleset_refusal lgr.BadClass = refusals.BadClass
ruleset_refusal lgr.Limit = refusals.Limit
ruleset_refusal lgr.NoSuchName = refusals.NoSuchName
ruleset_refusal lgr.SameName = refusals.SameName
ruleset_refusal lgr.NotSupported = refusals.NotSupported

-- of a text that is in XML, or isn't: this table says what the ruleset says, or the text spells this table
abbrev pub GivesTable : Bool → Properties → Notation → List ℕ → TableValue → Type 0
GivesTable true properties notation text table = IsTableOfText properties text table
GivesTable false properties notation text table = IsTextOf properties notation text table

-- it has this fault, of which no cause is told, or this first fault, and this is its cause
abbrev pub GivesFault : Bool → Properties → Notation → List ℕ → ℕ × Refusal × Option LineCause → Type 0
GivesFault true properties notation text fault =
    (kind : TableFault) × (ruleset_refusal kind ≡ fault.1) × IsToldOf properties text (Fault kind fault.0)
    × (fault.2 ≡ None)
GivesFault false properties notation text fault =
    (kind : LineFault) × (table_refusal kind ≡ fault.1) × IsFaultOf properties notation text fault.0 kind
    × (fault.2 ≡ fault_cause properties notation text (fault_of_line fault.0 kind))

-- the text gives this table
abbrev pub IsTableIn : Properties → Notation → List ℕ → TableValue → Type 0
IsTableIn properties notation text table = GivesTable (is_in_xml notation text) properties notation text table

-- the text has this fault
abbrev pub HasFault : Properties → Notation → List ℕ → ℕ × Refusal × Option LineCause → Type 0
HasFault properties notation text fault = GivesFault (is_in_xml notation text) properties notation text fault

-- the text gives this table, or has this fault
abbrev pub IsReadAs : Properties → Notation → List ℕ → TableGiven → Type 0
IsReadAs properties notation text (Ok table) = IsTableIn properties notation text table
IsReadAs properties notation text (Err fault) = HasFault properties notation text fault

-- by these entries some sequence is a variant of too many sources for a search of collisions
abbrev pub AreCrowded : List Entry → Type 0
AreCrowded entries = (a : List ℕ) × IsCrowded entries a

-- the line of an entry, from 1; of a text in XML the first one is told
abbrev pub IsToldFor : Bool → Notation → List ℕ → TableValue → ℕ → ℕ → Type 0
IsToldFor true notation text table entry line = line ≡ 1
IsToldFor false notation text table entry line = IsLineOfEntry notation text table entry line

-- the text gives such a table, and this line is told for the source that is one too many
pub record IsCrowdedIn (properties : Properties) (notation : Notation) (text : List ℕ) (line : ℕ) : Type 0 where
  pub table : TableValue
  pub given : IsTableIn properties notation text table
  pub entry : ℕ
  pub source : IsCrowdedAt table.entries entry
  pub here : IsToldFor (is_in_xml notation text) notation text table entry line

-- the text gives this table, by which collisions are searched; or it has this fault, or gives a table by which they
-- aren't: that is told where the source is one too many
abbrev pub IsSearchedAs : Properties → Notation → List ℕ → TableGiven → Type 0
IsSearchedAs properties notation text (Ok table) = IsTableIn properties notation text table × ¬ AreCrowded table.entries
IsSearchedAs properties notation text (Err fault) =
    HasFault properties notation text fault
    ⊎ (IsCrowdedIn properties notation text fault.0 × (fault.1 ≡ refusals.Limit) × (fault.2 ≡ None))

-- a listing is whole, or the label is asked among registered ones
abbrev pub IsListedBy : Option (List (List ℕ)) → Properties → Notation → List ℕ → TableGiven → Type 0
IsListedBy None properties notation text table = IsReadAs properties notation text table
IsListedBy (Some registered) properties notation text table = IsSearchedAs properties notation text table

-- the table by which a mode works, as its text says; a mode that names no table has the empty one
abbrev pub IsTableFor : Mode → Option (List (List ℕ)) → Properties → Notation → List ℕ → TableGiven → Type 0
IsTableFor Variants registered properties notation text table = IsListedBy registered properties notation text table
IsTableFor Jump registered properties notation text table = IsSearchedAs properties notation text table
IsTableFor CheckTable registered properties notation text table = IsReadAs properties notation text table
IsTableFor PrintTable registered properties notation text table = IsReadAs properties notation text table
IsTableFor mode registered properties notation text table = table ≡ Ok no_table

-- the same by the settings of a run
abbrev pub IsTableOf : Settings → List ℕ → TableGiven → Type 0
IsTableOf o text table = IsTableFor o.mode o.registered o.properties o.notation text table

-- ---- what a run says

-- in answer to a line; that a line is refused, and its cause, if one is told; what is found in a table; the text of a
-- table; the fault of a line of a table, and its cause, if one is told
pub data Statement : Type 0 where
  Says : (line : Numbered) (said : Said) → Statement
  Refuses : (line : Numbered) (refusal : Refusal) (cause : Option LineCause) → Statement
  Finds : (finding : Finding) → Statement
  Prints : (text : List ℕ) → Statement
  Faults : (line : ℕ) (refusal : Refusal) (cause : Option LineCause) → Statement

-- a statement as it is written: answers and what is found go to the output in either form, and the text of a table as
-- it is; a refusal is a message, or an object of the output
abbrev pub output_line_in : Form → Statement → OutputLine
output_line_in form (Says line said) = Output (said_text form line said)
output_line_in form (Finds finding) = Output (finding_text form finding)
output_line_in form (Prints text) = Output text
output_line_in form (Refuses line refusal cause) = refusal_line form line refusal cause
output_line_in form (Faults line refusal cause) = fault_line form line refusal cause

-- ---- the lines of the input

-- how a mode explains
abbrev pub explained_by_mode : Mode → Settings → TableValue → Explained
explained_by_mode Lookup o table = ByQuery o.std3
explained_by_mode Register o table = ByLabel o.properties
explained_by_mode Decode o table = ByName o.properties
explained_by_mode DecodeOld o table = ByLabel o.properties
explained_by_mode Variants o table = ByTable o.properties table
explained_by_mode Jump o table = ByRequest o.properties table
explained_by_mode CheckTable o table = Unexplained
explained_by_mode PrintTable o table = Unexplained

-- the same, if causes are wanted
abbrev pub explained_in : Mode → Settings → TableValue → Explained
explained_in mode o table = if_wanted (tells_causes o) (explained_by_mode mode o table)

-- what is said of a line that has this answer
abbrev pub answer_statements : Explained → Numbered → LineAnswer → List Statement
answer_statements how line (Ok said) = map (Says line) said
answer_statements how line (Err refusal) = Refuses line refusal (body_cause how line.body refusal) ∷ []

-- what is said of lines, in order
abbrev pub lines_statements : Explained → (List ℕ → LineAnswer) → List Numbered → List Statement
lines_statements how answer lines = flat_map (λ line. answer_statements how line (line_answer answer line.body)) lines

-- the output lines of an answer, or of a refusal, as they are written
abbrev pub output_for : Form → Explained → Numbered → LineAnswer → List OutputLine
output_for form how line (Ok said) = outputs (said_text form line) said
output_for form how line (Err refusal) =
    output_line_in form (Refuses line refusal (body_cause how line.body refusal)) ∷ []

-- the output lines of a line
abbrev pub line_output : Form → Explained → (List ℕ → LineAnswer) → Numbered → List OutputLine
line_output form how answer line = output_for form how line (line_answer answer line.body)

-- the output lines of lines, in order
abbrev pub lines_output : Form → Explained → (List ℕ → LineAnswer) → List Numbered → List OutputLine
lines_output form how answer lines = flat_map (line_output form how answer) lines

-- whether some line is refused
abbrev pub has_refused : (List ℕ → LineAnswer) → List Numbered → Bool
has_refused answer lines = list_any (λ line. is_err (line_answer answer line.body)) lines

-- 1 where something is refused, else 0
abbrev pub status_if : Bool → Status
status_if refused = if refused then Refused else Clean

-- ---- the check of a table

-- what a check finds
abbrev pub check_findings : TableValue → List Finding
check_findings table =
    map (Found Missing) (gaps_of table.entries) ++ (map (Found Differs) (differences_of table.entries)
    ++ (map Idle (idle_types table.definitions)
    ++ Counted (length table.entries) (length (gaps_of table.entries)) ∷ []))

-- what a check finds, by what it has to be: each pair that symmetry or transitivity requires and the table lacks, in
-- order; then each pair of variants of each other that aren't so under the same conditions, in order; then each type of
-- its own that no action names, in order of definition; and then how many entries and how many gaps there are
pub record IsCheck (table : TableValue) (findings : List Finding) : Type 0 where
  pub gaps : List (List ℕ × List ℕ)
  pub differences : List (List ℕ × List ℕ)
  pub exactly : AreGapsOf table.entries gaps
  pub exactly_differ : AreDifferencesOf table.entries differences
  pub found : findings ≡ map (Found Missing) gaps ++ (map (Found Differs) differences
      ++ (map Idle (idle_types table.definitions) ++ Counted (length table.entries) (length gaps) ∷ []))

-- some pair is found, or such a type
abbrev pub has_found : TableValue → Bool
has_found table =
    not (length (gaps_of table.entries) + length (differences_of table.entries)
    + length (idle_types table.definitions) == 0)

-- what is said of a table; of a faulty one its fault, with its cause, if causes are wanted
abbrev pub check_statements : Bool → TableGiven → List Statement
check_statements wanted (Err fault) = Faults fault.0 fault.1 (told_if wanted fault.2) ∷ []
check_statements wanted (Ok table) = map Finds (check_findings table)

-- what is said of a table, as it is written
abbrev pub check_output : Form → Bool → TableGiven → List OutputLine
check_output form wanted (Err fault) = output_line_in form (Faults fault.0 fault.1 (told_if wanted fault.2)) ∷ []
check_output form wanted (Ok table) = outputs (finding_text form) (check_findings table)

-- 2 for a faulty table, 1 for one of which a pair is found or a type, else 0
abbrev pub check_status : TableGiven → Status
check_status (Err fault) = Unusable
check_status (Ok table) = status_if (has_found table)

-- the canonical text of a table
abbrev pub printed_text : TableValue → List ℕ
printed_text table = table_text table.version table.definitions table.entries

-- ---- the whole run

-- what a mode says over these lines; the check of a table and its printing read none
abbrev pub mode_statements : Mode → Settings → TableValue → List Numbered → List Statement
mode_statements CheckTable o table lines = check_statements (tells_causes o) (Ok table)
mode_statements PrintTable o table lines = Prints (printed_text table) ∷ []
mode_statements mode o table lines = lines_statements (explained_in mode o table) (mode_answer mode o table) lines

-- its output lines
abbrev pub mode_output : Mode → Settings → TableValue → List Numbered → List OutputLine
mode_output CheckTable o table lines = check_output o.form (tells_causes o) (Ok table)
mode_output PrintTable o table lines = Output (printed_text table) ∷ []
mode_output mode o table lines = lines_output o.form (explained_in mode o table) (mode_answer mode o table) lines

-- 1 where a line is refused, else 0
abbrev pub mode_status : Mode → Settings → TableValue → List Numbered → Status
mode_status CheckTable o table lines = check_status (Ok table)
mode_status PrintTable o table lines = Clean
mode_status mode o table lines = status_if (has_refused (mode_answer mode o table) lines)

-- what a run says, in order: what its mode says, or the fault of the table
abbrev pub statements : Settings → TableGiven → List Numbered → List Statement
statements o (Err fault) lines = check_statements (tells_causes o) (Err fault)
statements o (Ok table) lines = mode_statements o.mode o table lines

-- the output lines of a run, in order: those of its mode, or the one of a faulty table
abbrev pub transcript : Settings → TableGiven → List Numbered → List OutputLine
transcript o (Err fault) lines = check_output o.form (tells_causes o) (Err fault)
transcript o (Ok table) lines = mode_output o.mode o table lines

-- the status of a run
abbrev pub status_of : Settings → TableGiven → List Numbered → Status
status_of o (Err fault) lines = check_status (Err fault)
status_of o (Ok table) lines = mode_status o.mode o table lines
