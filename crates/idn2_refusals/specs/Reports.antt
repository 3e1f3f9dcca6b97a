-- What is written where a refusal ends the program: its message and status; and where a file isn't read as registered
-- labels, why.
use Rattle.std.specs.Prelude.{◌≡◌, ◌⊎◌, ◌++◌, ℕ, List, codes, true, Option}
use Rattle.idn_text.specs.Writers.{Writer, TakesWhole, TakesPart}
use Rattle.idn_text.specs.declared.refusal.Refusal.{Refusal}
use Rattle.idn_text.specs.declared.refusal.Refusal.TheVariants.{Usage, ReadFault, WriteFault, Memory}
use Rattle.idn2_options.specs.declared.command_line.form.Form.{Form}
use Rattle.idn2_options.specs.declared.command_line.form.Form.TheVariants.{Plain, Json}
use Rattle.idn2_options.specs.Settings.{Settings, tells_causes}
use Rattle.idn2_output.specs.Writing.{Held}
use Rattle.idn2_output.specs.declared.status.Status.{Status}
use Rattle.idn2_output.specs.declared.status.Status.TheVariants.{Unusable, Faulty, OutOfMemory}
use Rattle.idn2_refusals.specs.CauseWords.{tail_text}
use Rattle.idn2_refusals.specs.Messages.{told, registered_message, registered_object}
use Rattle.idn2_refusals.specs.WrongLines.{MayTakeMemory, told_of_wrong_line}
use Rattle.idn2_refusals.specs.declared.cause.LineCause.{LineCause}

-- the refusal ends the program: its number is 50, 60, 61 or 70
abbrev pub IsFault : Refusal → Type 0
IsFault Usage = Unit {0}
IsFault ReadFault = Unit {0}
IsFault WriteFault = Unit {0}
IsFault Memory = Unit {0}
IsFault _ = ⊥

-- its message, by number and text, with a line feed
abbrev pub closing_message : Refusal → List ℕ
closing_message refusal = codes "idn2: " ++ told refusal

-- its status: 3 for a read or a write, 4 for memory, else 2
abbrev pub closing_status : Refusal → Status
closing_status ReadFault = Faulty
closing_status WriteFault = Faulty
closing_status Memory = OutOfMemory
closing_status _ = Unusable

-- a writer failed, and took a proper prefix of the text
abbrev pub LosesText : List ℕ → Writer → Writer → Type 0
LosesText text old new = (taken : ℕ) × TakesPart old new text taken

-- a writer took the text, or a proper prefix of it where it failed
abbrev pub TakesText : List ℕ → Writer → Writer → Type 0
TakesText text old new = TakesWhole old new text ⊎ LosesText text old new

-- what a wrong line of the registered labels leads to: its message and the status, which is 2, or 3 where the writer
-- failed
abbrev pub TellsWrong : List ℕ → Writer → Writer → Status → Type 0
TellsWrong text old new status =
    (TakesWhole old new text × (status ≡ Unusable)) ⊎ (LosesText text old new × (status ≡ Faulty))

-- a wrong line of the registered labels is told as one of a table is, by a message or an object of the output, with its
-- cause, if one is told; where the output fails, as in a run, the last message says so
abbrev pub TellsWrongLine : Form → ℕ → Refusal → Option LineCause → (old new : Held) → Status → Type 0
TellsWrongLine Plain line refusal cause old new status =
    (new ≡ record old { messages = new.messages })
    × TellsWrong (registered_message line refusal (tail_text refusal cause)) old.messages new.messages status
TellsWrongLine Json line refusal cause old new status =
    ((new ≡ record old { output = new.output })
    × TakesWhole old.output new.output (registered_object line refusal cause) × (status ≡ Unusable))
    ⊎ (LosesText (registered_object line refusal cause) old.output new.output
    × TakesText (closing_message WriteFault) old.messages new.messages
    × (status ≡ Faulty))

-- that memory ran out is told as ever
abbrev pub TellsMemory : (old new : Held) → Status → Type 0
TellsMemory old new status =
    (new ≡ record old { messages = new.messages }) × TakesText (closing_message Memory) old.messages new.messages
    × (status ≡ closing_status Memory)

-- what a wrong line leads to of a file that is not read as registered labels: it is told, where causes are wanted with
-- its cause, unless memory runs out for a cause that may take some
abbrev pub TellsUnreadLine : Settings → List ℕ → ℕ → Refusal → (old new : Held) → Status → Type 0
TellsUnreadLine o text line refusal old new status =
    TellsWrongLine o.form line refusal (told_of_wrong_line o.properties (tells_causes o) text line refusal) old new status
    ⊎ ((tells_causes o ≡ true) × MayTakeMemory text line refusal × TellsMemory old new status)
