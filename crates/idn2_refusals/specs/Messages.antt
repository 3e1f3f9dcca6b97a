-- A refusal as it is told: by a message, or by an object of the output.
use Rattle.std.specs.Prelude.{ℕ, List, ◌++◌, codes, Option}
use Rattle.std.specs.Fmt.{decimal}
use Rattle.idn_text.specs.declared.refusal.Refusal.{Refusal}
use Rattle.idn_text.specs.Lines.{Numbered}
use Rattle.idn_text.specs.Refusals.{refusal_number, refusal_text}
use Rattle.answer_json.specs.Answers.{line_of}
use Rattle.answer_json.specs.Inputs.{told_of}
use Rattle.answer_json.specs.Objects.{refused, table_fault, registered_fault}
use Rattle.idn2_options.specs.declared.command_line.form.Form.{Form}
use Rattle.idn2_options.specs.declared.command_line.form.Form.TheVariants.{Plain, Json}
use Rattle.idn2_output.specs.OutputLines.{OutputLine, Output, Message}
use Rattle.idn2_refusals.specs.CauseWords.{tail_text}
use Rattle.idn2_refusals.specs.CauseParts.{told_details}
use Rattle.idn2_refusals.specs.declared.cause.LineCause.{LineCause}

-- ---- messages

-- a refusal by its number and its text, with a line feed
abbrev pub told : Refusal → List ℕ
told refusal = decimal (refusal_number refusal) ++ (codes " " ++ (refusal_text refusal ++ codes "\n"))

-- the message of a refused line
abbrev pub line_message : ℕ → Refusal → List ℕ
line_message number refusal = codes "idn2: line " ++ (decimal number ++ (codes ": " ++ told refusal))

-- the message of a line, after the words that say whose line it is, with what it goes on with before the line feed
abbrev pub message_with : List ℕ → ℕ → Refusal → List ℕ → List ℕ
message_with before number refusal tail =
    before
    ++ (decimal number
    ++ (codes ": "
    ++ (decimal (refusal_number refusal) ++ (codes " " ++ (refusal_text refusal ++ (tail ++ codes "\n"))))))

-- of a refused line
abbrev pub refused_message : ℕ → Refusal → List ℕ → List ℕ
refused_message number refusal tail = message_with (codes "idn2: line ") number refusal tail

-- the message of a table that has a fault
abbrev pub table_message : ℕ → Refusal → List ℕ → List ℕ
table_message number refusal tail = message_with (codes "idn2: table line ") number refusal tail

-- the message of a file that is not read as registered labels
abbrev pub registered_message : ℕ → Refusal → List ℕ → List ℕ
registered_message number refusal tail = message_with (codes "idn2: registered line ") number refusal tail

-- ---- objects

-- the object of a refused line, with its line feed
abbrev pub refused_object : Numbered → Refusal → Option LineCause → List ℕ
refused_object line refusal cause =
    line_of (refused line.number (told_of line.body) refusal (told_details refusal cause))

-- the object of a table that has a fault
abbrev pub table_object : ℕ → Refusal → Option LineCause → List ℕ
table_object line refusal cause = line_of (table_fault line refusal (told_details refusal cause))

-- the object of a file that is not read as registered labels
abbrev pub registered_object : ℕ → Refusal → Option LineCause → List ℕ
registered_object line refusal cause = line_of (registered_fault line refusal (told_details refusal cause))

-- ---- either of them

-- of a refused line, with its cause, if one is told
abbrev pub refusal_line : Form → Numbered → Refusal → Option LineCause → OutputLine
refusal_line Plain line refusal cause = Message (refused_message line.number refusal (tail_text refusal cause))
refusal_line Json line refusal cause = Output (refused_object line refusal cause)

-- of a line of a table
abbrev pub fault_line : Form → ℕ → Refusal → Option LineCause → OutputLine
fault_line Plain line refusal cause = Message (table_message line refusal (tail_text refusal cause))
fault_line Json line refusal cause = Output (table_object line refusal cause)
