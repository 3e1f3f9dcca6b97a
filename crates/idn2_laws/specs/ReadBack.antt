-- Objects that are read back as they are meant.
use Rattle.std.specs.Prelude.{◌≡◌, ℕ, ◌<◌, ◌≤◌, ◌^◌, Bool, true, All, IsUtf8, List, length, Option, Some, None, Ok}
use Rattle.std.specs.Prelude.{Err}
use Rattle.idn_class.specs.declared.properties.Properties.{Properties}
use Rattle.json.specs.Json.{document}
use Rattle.idn_text.specs.Lines.{Numbered}
use Rattle.idn_text.specs.declared.refusal.Refusal.{Refusal}
use Rattle.idn_cause.specs.declared.cause.Cause.{Cause}
use Rattle.idn_cause.specs.declared.cause.Cause.TheVariants.{Octets}
use Rattle.idn_cause.specs.declared.a_label.ALabelCause.{ALabelCause}
use Rattle.idn_cause.specs.declared.a_label.ALabelCause.TheVariants.{Decoded, Copied}
use Rattle.idn_cause.specs.declared.query.LengthCause.{LengthCause}
use Rattle.idn_cause.specs.declared.query.LengthCause.TheVariants.{LabelOctets, NameOctets}
use Rattle.registered_labels.specs.Registered.{AreRegistered}
use Rattle.variant_table.specs.Entries.{TableValue}
use Rattle.variant_table.specs.Gaps.{gaps_of}
use Rattle.variant_table.specs.declared.fault.TableFault.{TableFault}
use Rattle.variant_table.specs.declared.version.Notation.{Notation}
use Rattle.variant_table.specs.FaultyLines.{fault_place}
use Rattle.ruleset_text.specs.declared.fault.FaultPlace.{FaultPlace}
use Rattle.ruleset_text.specs.declared.fault.FaultPlace.TheVariants as places
use Rattle.valid_labels.specs.Validity.{IsSound}
use Rattle.answer_json.specs.Answers.{Answer, json_of, text_of}
use Rattle.answer_json.specs.Clear.{is_clear}
use Rattle.answer_json.specs.Inputs.{told_of}
use Rattle.answer_json.specs.Objects.{refused, registered_fault, table_fault}
use Rattle.idn2_options.specs.Settings.{IsCount, Settings, tells_causes}
use Rattle.idn2_options.specs.declared.command_line.mode.Mode.{Mode}
use Rattle.idn2_laws.specs.LineCauses.{ReadsLines}
use Rattle.idn2_answers.specs.Answers.{line_answer, mode_answer}
use Rattle.idn2_refusals.specs.CauseParts.{told_details}
use Rattle.idn2_refusals.specs.Explained.{body_cause}
use Rattle.idn2_answers.specs.Transcript.{explained_in, check_findings}
use Rattle.idn2_answers.specs.Said.{Said, finding_object, said_object}
use Rattle.idn2_refusals.specs.TableCauses.{fault_cause, told_if}
use Rattle.idn2_refusals.specs.WrongLines.{told_of_wrong_line}
use Rattle.idn2_refusals.specs.declared.cause.LineCause.{LineCause}
use Rattle.idn2_refusals.specs.declared.cause.LineCause.TheVariants.{OfLabel, OfALabel, OfName, OfQuery}

-- the grammar of JSON (RFC 8259) reads the text of the object as the object that is meant; the text is one line, and
-- UTF-8
pub record IsReadBack (answer : Answer) : Type 0 where
  pub read_back : document (text_of (json_of answer)) ≡ Some (json_of answer)
  pub one_line : is_clear (text_of (json_of answer)) ≡ true
  pub unicode : IsUtf8 (text_of (json_of answer))

-- there are no registered labels, or fewer than 2 ^ 64
abbrev pub IsKeptToFew : Properties → Option (List (List ℕ)) → Type 0
IsKeptToFew properties None = Unit {0}
IsKeptToFew properties (Some labels) = AreRegistered properties labels × (length labels < 2 ^ 64)

-- each object that a mode says in answer to a line is read back, whatever the line holds, if its number is below 2 ^ 64
abbrev pub SaidIsReadBack : Type 0
SaidIsReadBack =
    (mode : Mode) (o : Settings) (table : TableValue) (line : Numbered) (said : List Said) → IsSound table
    → IsCount o.tries → IsKeptToFew o.properties o.registered
    → line.number < 2 ^ 64 → line_answer (mode_answer mode o table) line.body ≡ Ok said
    → All (λ s. IsReadBack (said_object line.number (told_of line.body) s)) said

-- ---- refusals

-- a line has at most 1,024 bytes, unless none of it is kept
abbrev pub IsShortBody : Option (List ℕ) → Type 0
IsShortBody None = Unit {0}
IsShortBody (Some bytes) = length bytes ≤ 1024

-- what a cause tells the octets of, the A-label of a label or a name in ASCII, has fewer than 2 ^ 64 octets
abbrev pub HasFewOctets : Cause → Type 0
HasFewOctets (Octets n) = n < 2 ^ 64
HasFewOctets _ = Unit {0}

abbrev pub ALabelHasFewOctets : ALabelCause → Type 0
ALabelHasFewOctets (Decoded cause) = HasFewOctets cause
ALabelHasFewOctets (Copied cause) = HasFewOctets cause
ALabelHasFewOctets _ = Unit {0}

abbrev pub NameHasFewOctets : LengthCause → Type 0
NameHasFewOctets (LabelOctets number octets) = (number < 2 ^ 63) × (octets < 2 ^ 64)
NameHasFewOctets (NameOctets octets) = octets < 2 ^ 64

abbrev pub TellsFewOctets : LineCause → Type 0
TellsFewOctets (OfLabel cause) = HasFewOctets cause
TellsFewOctets (OfALabel cause) = ALabelHasFewOctets cause
TellsFewOctets (OfName cause) = ALabelHasFewOctets cause.cause
TellsFewOctets (OfQuery cause) = NameHasFewOctets cause
TellsFewOctets _ = Unit {0}

abbrev pub TellsFewOctetsIfAny : Option LineCause → Type 0
TellsFewOctetsIfAny None = Unit {0}
TellsFewOctetsIfAny (Some cause) = TellsFewOctets cause

-- the object of each line that a mode refuses is read back, whatever the line holds, with the cause that is told
abbrev pub RefusalsAreReadBack : Type 0
RefusalsAreReadBack =
    (mode : Mode) (o : Settings) (table : TableValue) (line : Numbered) (refusal : Refusal) → ReadsLines mode
    → tells_causes o ≡ true
    → IsSound table → line.number < 2 ^ 64 → IsShortBody line.body
    → line_answer (mode_answer mode o table) line.body ≡ Err refusal
    → TellsFewOctetsIfAny (body_cause (explained_in mode o table) line.body refusal)
    → IsReadBack
    (refused line.number (told_of line.body) refusal
    (told_details refusal (body_cause (explained_in mode o table) line.body refusal)))

-- ---- tables, and registered labels

-- each object of the check of a table is read back, where fewer than 2 ^ 64 pairs are missing
abbrev pub FindingsAreReadBack : Type 0
FindingsAreReadBack =
    (table : TableValue) → IsSound table → length (gaps_of table.entries) < 2 ^ 64 →
    All (λ f. IsReadBack (finding_object f)) (check_findings table)

-- the byte of a line at which it has its fault
abbrev pub byte_of : FaultPlace → ℕ
byte_of (places.Lexeme place len) = place
byte_of (places.End place) = place
byte_of (places.Point place c) = place
byte_of (places.InRange place c) = place
byte_of (places.Variant place) = place
byte_of (places.Source place) = place
byte_of (places.Byte place) = place
byte_of (places.NinthPoint place c) = place
byte_of (places.SeventeenthVariant place c) = place

-- so is that of the fault of a table, with its cause, where the line of the fault and the place in it are small numbers
abbrev pub TableFaultsAreReadBack : Type 0
TableFaultsAreReadBack =
    (properties : Properties) (wanted : Bool) (notation : Notation) (text : List ℕ) (fault : TableFault) (line : ℕ)
    (refusal : Refusal) → line < 2 ^ 64
    → ((place : FaultPlace) → fault_place properties notation text fault ≡ Some place → byte_of place < 2 ^ 63)
    → IsReadBack
    (table_fault line refusal (told_details refusal (told_if wanted (fault_cause properties notation text fault))))

-- and that of a wrong line of the registered labels, with its cause
abbrev pub RegisteredFaultsAreReadBack : Type 0
RegisteredFaultsAreReadBack =
    (properties : Properties) (wanted : Bool) (text : List ℕ) (number : ℕ) (refusal : Refusal) → number < 2 ^ 64
    → TellsFewOctetsIfAny (told_of_wrong_line properties wanted text number refusal)
    → IsReadBack
    (registered_fault number refusal (told_details refusal (told_of_wrong_line properties wanted text number refusal)))
