-- How a run goes: to its end, or to a stop and a last message.
use Rattle.std.specs.Prelude.{◌≡◌, ℕ, List, ◌⊎◌, ◌++◌, ◌≢◌, [], ◌∷◌, true, Result, MatchResult, Bool, false, IsTrue, Ok}
use Rattle.std.specs.Prelude.{Err}
use Rattle.idn2_refusals.specs.Reports.{TakesText, TellsMemory, TellsUnreadLine, closing_message, closing_status}
use Rattle.idn2_output.specs.Writing.{refusal_of, Held, Writes, IsCutBy, WritesUntil}
use Rattle.idn2_output.specs.OutputLines.{OutputLine}
use Rattle.idn2_answers.specs.Transcript.{lines_output, has_refused, status_if, transcript, status_of, TableGiven}
use Rattle.idn2_answers.specs.Transcript.{IsTableOf}
use Rattle.registered_labels.specs.declared.labels.RegisteredFileFault.{RegisteredFileFault}
use Rattle.registered_labels.specs.declared.labels.RegisteredFileFault.TheVariants as registers
use Rattle.idn2_output.specs.declared.status.Status.{Status}
use Rattle.idn2_output.specs.declared.stop.Stop.{Stop}
use Rattle.idn_text.specs.Lines.{Numbered}
use Rattle.idn_text.specs.Reading.{Reading, HasRead, HasStopped}
use Rattle.idn_text.specs.declared.lines.State.TheVariants.{Ended, Stopped}
use Rattle.idn2_options.specs.Settings.{Settings}
use Rattle.idn2_options.specs.declared.command_line.form.Form.{Form}
use Rattle.idn2_answers.specs.Answers.{LineAnswer}
use Rattle.idn2_refusals.specs.Explained.{Explained}
use Rattle.idn2_cli.specs.Memory.{NeedsNone, ServesWithoutMemory, GoesOnWithoutMemory, BodyNeedsNone, reads_table}
use Rattle.idn2_options.specs.declared.command_line.mode.Mode.{Mode}
use Rattle.idn2_options.specs.declared.command_line.mode.Mode.TheVariants.{CheckTable, PrintTable}
use Rattle.idn2_output.specs.declared.stop.Stop.TheVariants as stop

-- ---- what is to be done

-- whether lines are read, and what is written for them, with which status; whether a table is read before them; which
-- lines are answered without memory, and of which the answer, once begun, goes on without
pub record Job : Type 1 where
  pub reads : Bool
  pub output_lines : List Numbered → List OutputLine
  pub status : List Numbered → Status
  pub reads_table : Bool
  pub needs_none : List ℕ → Type 0
  pub goes_on : List ℕ → Type 0

-- to answer each line by itself
abbrev pub lines_job : Form → Explained → (List ℕ → LineAnswer) → (needs_none goes_on : List ℕ → Type 0) → Job
lines_job form explained answer needs_none goes_on = record {
  reads = true;
  output_lines = lines_output form explained answer;
  status = λ lines. status_if (has_refused answer lines);
  reads_table = false;
  needs_none = NeedsNone explained answer needs_none;
  goes_on = goes_on;
}

-- the input is read in every mode but the check of a table and its printing, where no table has a fault
abbrev pub reads_lines : Mode → TableGiven → Bool
reads_lines mode (Err fault) = false
reads_lines CheckTable (Ok table) = false
reads_lines PrintTable (Ok table) = false
reads_lines mode (Ok table) = true

-- to serve a mode
abbrev pub mode_job : Settings → TableGiven → Job
mode_job o table = record {
  reads = reads_lines o.mode table;
  output_lines = transcript o table;
  status = status_of o table;
  reads_table = reads_table o.mode;
  needs_none = ServesWithoutMemory o.mode o table;
  goes_on = GoesOnWithoutMemory o.mode o table;
}

-- the same job, for which no memory is taken before a line is read
abbrev pub at_lines_alone : Job → Job
at_lines_alone job = record job { reads_table = false }

-- ---- to the end or to a stop

-- to the end of the input, if it is read: all output lines are written
pub record EndsWell (job : Job) (lines : List Numbered) (now : Reading) (old new : Held)
    (status : Status) : Type 0 where
  pub ended : IsTrue job.reads → now.state ≡ Ended
  pub output_lines : Writes old new (job.output_lines lines)
  pub answered : status ≡ job.status lines

-- a write or memory stopped the job at the last line that was read: all output lines of the lines before it are
-- written, and then those of its own output lines that the stop let through; memory does so only where the answer to
-- that line may take some, and then before any output line of it, or where going on with it may take some
pub record StopsAtLine (job : Job) (why : Stop) (lines : List Numbered) (now : Reading)
    (written : List OutputLine) : Type 0 where
  pub before : List Numbered
  pub line : Numbered
  pub part : List OutputLine
  pub last : lines ≡ before ++ line ∷ []
  pub going : now.state ≢ Stopped
  pub cut : IsCutBy why (job.output_lines (line ∷ [])) part
  pub memory : why ≡ stop.Memory → ¬ BodyNeedsNone job.needs_none line.body
  pub begun : why ≡ stop.Memory → (part ≡ []) ⊎ (¬ BodyNeedsNone job.goes_on line.body)
  pub stand : written ≡ job.output_lines before ++ part

-- a write or memory stopped the job before a line was read, and the reader was not called: while the table was read, at
-- the message of its fault, or in its check; memory does so only where a table is read
pub record StopsUnread (job : Job) (why : Stop) (lines : List Numbered) (start now : Reading)
    (written : List OutputLine) : Type 0 where
  pub no_line : lines ≡ []
  pub unread : now ≡ start
  pub cut : IsCutBy why (job.output_lines []) written
  pub memory : why ≡ stop.Memory → job.reads_table ≡ true

-- where a read stops a job, all output lines of the lines that it read stand, which are those that a line feed ends;
-- where a write or memory does, it stops at once, and no line is read after that
abbrev pub Stands : Job → Stop → List Numbered → Reading → Reading → List OutputLine → Type 0
Stands job stop.Reading lines start now written =
    HasStopped start now × (now.state ≡ Stopped) × (written ≡ job.output_lines lines)
Stands job why lines start now written =
    StopsAtLine job why lines now written ⊎ StopsUnread job why lines start now written

-- to a stop: of the output lines stands what it left
pub record EndsEarly (job : Job) (lines : List Numbered) (start now : Reading) (old new : Held)
    (why : Stop) : Type 0 where
  pub written : List OutputLine
  pub output_lines : WritesUntil why old new written
  pub stands : Stands job why lines start now written

-- of the input these bytes were taken, and these lines of them read, and the job is done for them or stopped
pub record Does (job : Job) (start now : Reading) (old new : Held) (result : Result Status Stop) : Type 0 where
  pub given : List ℕ
  pub lines : List Numbered
  pub read : HasRead start now given lines
  pub unread : job.reads ≡ false → now ≡ start
  pub ending : MatchResult result (EndsWell job lines now old new) (EndsEarly job lines start now old new)

-- ---- the last message

-- what a file leads to that is not read as registered labels
abbrev pub TellsUnread : Settings → List ℕ → RegisteredFileFault → (old new : Held) → Status → Type 0
TellsUnread o text (registers.Refused line refusal) old new status = TellsUnreadLine o text line refusal old new status
TellsUnread o text registers.Memory old new status = TellsMemory old new status

-- the refusal of a stop is the last that is written. There is none where the messages failed before
abbrev pub Closes : Stop → Held → Held → Type 0
Closes stop.Messages old new = new ≡ old
Closes why old new =
    (new ≡ record old { messages = new.messages }) × TakesText (closing_message (refusal_of why)) old.messages
    new.messages

-- the job stopped, and then came the last message
pub record Stops (job : Job) (start now : Reading) (old new : Held) (status : Status) : Type 0 where
  pub why : Stop
  pub middle : Held
  pub stopped : Does job start now old middle (Err why)
  pub closes : Closes why middle new
  pub answered : status ≡ closing_status (refusal_of why)

-- the job is done, or it stopped
abbrev pub Ends : Job → Reading → Reading → Held → Held → Status → Type 0
Ends job start now old new status = Does job start now old new (Ok status) ⊎ Stops job start now old new status

-- ---- a run by the text of a table

-- memory ran out before a line was read: that is told, and nothing else
pub record RunsOut (o : Settings) (start now : Reading) (old new : Held) (status : Status) : Type 0 where
  pub by_table : reads_table o.mode ≡ true
  pub unread : now ≡ start
  pub told : TellsMemory old new status

-- the job of the mode, by the table or the fault that the text gives; or memory ran out before that was known
abbrev pub RunsBy : Settings → (text : List ℕ) → Reading → Reading → Held → Held → Status → Type 0
RunsBy o text start now old new status =
    ((given : TableGiven) × IsTableOf o text given × Ends (mode_job o given) start now old new status)
    ⊎ RunsOut o start now old new status
