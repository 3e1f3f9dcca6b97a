-- A run by the bytes of its files.
use Rattle.std.specs.Prelude.{◌≡◌, ◌⊎◌, ℕ, List, [], Option, Some, None, IfSome}
use Rattle.idn_text.specs.Reading.{Reading, IsUnread}
use Rattle.registered_labels.specs.Texts.{IsFaultOf, IsTextOf}
use Rattle.registered_labels.specs.declared.labels.RegisteredFileFault.{RegisteredFileFault}
use Rattle.idn2_cli.specs.Settings.{Settings, keeping}
use Rattle.idn2_output.specs.declared.status.Status.{Status}
use Rattle.idn2_output.specs.Writing.{Held}
use Rattle.idn2_cli.specs.Ends.{RunsBy, TellsUnread}
use Rattle.idn2_cli.specs.Headline.{AnswersLabels, PrintsByText}

-- by a table of this text, among these registered labels, if there are some: the input is read from here to there, the
-- output and the messages take what the run says, and for a table without a fault the answer to each line is that of
-- the theorem; or memory ran out before the table was known
pub record Runs (o : Settings) (table : List ℕ) (labels : Option (List (List ℕ))) (start now : Reading)
    (old new : Held) (status : Status) : Type 0 where
  pub ends : RunsBy (keeping labels o) table start now old new status
  pub headline : AnswersLabels o.mode
      → PrintsByText (keeping labels o) table start now old.output.contents new.output.contents status

-- the labels are those of which a file of this text has the lines
pub record RunsAmong (o : Settings) (table text : List ℕ) (start now : Reading)
    (old new : Held) (status : Status) : Type 0 where
  pub labels : List (List ℕ)
  pub read : IsTextOf o.properties text labels
  pub runs : Runs o table (Some labels) start now old new status

-- a file of this text has a fault, which is told, and no line is read
pub record TellsFault (o : Settings) (text : List ℕ) (start now : Reading)
    (old new : Held) (status : Status) : Type 0 where
  pub fault : RegisteredFileFault
  pub found : IsFaultOf o.properties text fault
  pub unread : now ≡ start
  pub told : TellsUnread o text fault old new status

-- by the text of a file of registered labels, if there is one
abbrev pub RunsByFiles : Settings → (table : List ℕ) → (file : Option (List ℕ)) → (start now : Reading)
    → (old new : Held) → Status → Type 0
RunsByFiles o table None start now old new status = Runs o table None start now old new status
RunsByFiles o table (Some text) start now old new status =
    RunsAmong o table text start now old new status ⊎ TellsFault o text start now old new status

-- the whole of it: the lines are those of a text, where one is given, and nothing was taken before
pub record HasAnswered (o : Settings) (table : List ℕ) (file given : Option (List ℕ)) (status : Status) : Type 0 where
  pub start : Reading
  pub now : Reading
  pub old : Held
  pub new : Held
  pub unread : IsUnread start
  pub lines : IfSome given (λ text. start.input.reader.remaining ≡ Some text)
  pub no_answer : old.output.contents ≡ Some []
  pub no_message : old.messages.contents ≡ Some []
  pub runs : RunsByFiles o table file start now old new status
