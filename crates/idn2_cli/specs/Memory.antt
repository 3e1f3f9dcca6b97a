-- Lines that a mode answers without memory.
use Rattle.std.specs.Prelude.{◌≡◌, ℕ, Bool, true, false, List, [], chars, All, Option, Some, None, Ok, Err, ◌≢◌}
use Rattle.idn_class.specs.declared.properties.Properties.{Properties}
use Rattle.idna.specs.Labels.{labels_of}
use Rattle.idn_label.specs.FirstFault.{first_fault}
use Rattle.idn_label.specs.Memory.{NeedsNoMemory, LooksUpWithoutMemory, RegistersWithoutMemory, DecodesWithoutMemory}
use Rattle.idn_label.specs.Memory.{StandsWithoutMemory}
use Rattle.variant_table.specs.Entries.{TableValue}
use Rattle.variant_list.specs.Reversed.{IsReversed}
use Rattle.variant_list.specs.Spelled.{spelled}
use Rattle.idn2_answers.specs.Listings.{Filter, filter_of, tested_after}
use Rattle.idn2_answers.specs.Answers.{LineAnswer, mode_answer, text_answer}
use Rattle.idn2_refusals.specs.Requests.{requested_label}
use Rattle.idn2_refusals.specs.Explained.{Explained, TextCauseNeedsNone}
use Rattle.idn2_answers.specs.Transcript.{explained_in, TableGiven}
use Rattle.idn2_options.specs.Settings.{Settings}
use Rattle.idn2_options.specs.declared.command_line.mode.Mode.{Mode}
use Rattle.idn2_options.specs.declared.command_line.mode.Mode.TheVariants.{Lookup, Register, Decode, DecodeOld}
use Rattle.idn2_options.specs.declared.command_line.mode.Mode.TheVariants.{Variants, Jump, CheckTable, PrintTable}

-- the bytes of a name of which each label is decoded without memory
abbrev pub DecodesLineWithoutMemory : List ℕ → Type 0
DecodesLineWithoutMemory name = All DecodesWithoutMemory (labels_of name)

-- a label that is tested without memory, and has a fault (RFC 5891, section 4.2)
abbrev pub IsRefusedWithoutMemory : Properties → List ℕ → Type 0
IsRefusedWithoutMemory properties label = NeedsNoMemory label × (first_fault properties label ≢ None)

-- the bytes of a line; of one whose variants are listed or searched it is said only where its label is refused
abbrev pub AnswersWithoutMemory : Mode → Settings → List ℕ → Type 0
AnswersWithoutMemory Lookup o line = LooksUpWithoutMemory o.std3 line
AnswersWithoutMemory Register o line = RegistersWithoutMemory (chars line)
AnswersWithoutMemory Decode o line = DecodesLineWithoutMemory line
AnswersWithoutMemory DecodeOld o line = StandsWithoutMemory (chars line)
AnswersWithoutMemory Variants o line = IsRefusedWithoutMemory o.properties (chars line)
AnswersWithoutMemory Jump o line = IsRefusedWithoutMemory o.properties (requested_label (chars line))
AnswersWithoutMemory CheckTable o line = ⊥
AnswersWithoutMemory PrintTable o line = ⊥

-- a mode that reads a table, which takes memory before its first line
abbrev pub reads_table : Mode → Bool
reads_table Variants = true
reads_table Jump = true
reads_table CheckTable = true
reads_table PrintTable = true
reads_table mode = false

-- what a search finds of a table once takes no memory: each pair has its reverse, and there are no actions
pub record IsFoundWithoutMemory (table : TableValue) : Type 0 where
  pub none_turned : (a b : List ℕ) → ¬ IsReversed table.entries a b
  pub plain : table.definitions.actions ≡ []

-- the line is answered, or the cause of its refusal is told so
abbrev pub TellsWithoutMemory : Explained → List ℕ → LineAnswer → Type 0
TellsWithoutMemory how bytes (Ok lines) = Unit {0}
TellsWithoutMemory how bytes (Err refusal) = TextCauseNeedsNone how bytes refusal

-- the bytes of a line that needs no memory for its answer, and none for a cause
pub record NeedsNone (explained : Explained) (answer : List ℕ → LineAnswer) (needs_none : List ℕ → Type 0)
    (line : List ℕ) : Type 0 where
  pub told : TellsWithoutMemory explained line (text_answer answer line)
  pub answered : needs_none line

-- the same of a mode by its table; where that has a fault, no line is answered
abbrev pub ServesWithoutMemory : Mode → Settings → TableGiven → List ℕ → Type 0
ServesWithoutMemory mode o (Ok table) line =
    NeedsNone (explained_in mode o table) (mode_answer mode o table) (AnswersWithoutMemory mode o) line
ServesWithoutMemory mode o (Err fault) line = AnswersWithoutMemory mode o line

-- no label of these that a listing may test needs memory
abbrev pub TestsWithoutMemory : Filter → Settings → List (List ℕ) → Type 0
TestsWithoutMemory filter o labels = All NeedsNoMemory (tested_after filter o labels)

-- the listing of a label, once begun, goes on without memory
abbrev pub ListsWithoutMemory : Settings → TableValue → List ℕ → Type 0
ListsWithoutMemory o table label = TestsWithoutMemory (filter_of o.properties table label) o (spelled table label)

-- the block of a label does; among registered labels it does so whatever the label is
abbrev pub BlockGoesOn : Option (List (List ℕ)) → Settings → TableValue → List ℕ → Type 0
BlockGoesOn None o table label = ListsWithoutMemory o table label
BlockGoesOn (Some registered) o table label = Unit {0}

-- the bytes of a line whose answer, once begun, goes on without memory; all but a listing do so whatever the line is
abbrev pub GoesOnWithoutMemory : Mode → Settings → TableGiven → List ℕ → Type 0
GoesOnWithoutMemory Variants o (Ok table) line = BlockGoesOn o.registered o table (chars line)
GoesOnWithoutMemory mode o given line = Unit {0}

-- the body of a line; one that is too long is refused without memory
abbrev pub BodyNeedsNone : (List ℕ → Type 0) → Option (List ℕ) → Type 0
BodyNeedsNone needs_none None = Unit {0}
BodyNeedsNone needs_none (Some line) = needs_none line
