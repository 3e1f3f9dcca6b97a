-- How output lines are written: to the last, or to a stop.
use Rattle.std.specs.Prelude.{◌≡◌, ◌≢◌, ◌<◌, ◌⊎◌, ◌++◌, ◌∷◌, [], ℕ, List, length, take, Result, MatchResult, Err}
use Rattle.std.specs.Io.KnownBytes.{Appends}
use Rattle.idn_text.specs.Writers.{Writer, Fails}
use Rattle.idn_text.specs.declared.refusal.Refusal.{Refusal}
use Rattle.idn_text.specs.declared.refusal.Refusal.TheVariants.{ReadFault, WriteFault, Memory}
use Rattle.idn2_output.specs.OutputLines.{OutputLine, output_of, messages_of, Output, Message}
use Rattle.idn2_output.specs.declared.stop.Stop.{Stop}
use Rattle.idn2_output.specs.declared.stop.Stop.TheVariants as stop

-- ---- the two writers

-- the output and the messages; and where they are lent, by which loans
pub record Held : Type 0 where
  pub output : Writer
  pub messages : Writer
  pub output_loan : ℕ
  pub messages_loan : ℕ

-- what these two hold
abbrev pub held : Writer → Writer → Held
held output messages = record { output = output; messages = messages; output_loan = 0; messages_loan = 0 }

-- each of the same two writers took its output lines, in order
pub record TakesOutputLines (old new : Held) (output_lines : List OutputLine) : Type 0 where
  pub output : Appends old.output.contents new.output.contents (output_of output_lines)
  pub messages : Appends old.messages.contents new.messages.contents (messages_of output_lines)
  pub output_loan : new.output_loan ≡ old.output_loan
  pub messages_loan : new.messages_loan ≡ old.messages_loan

-- the same, and no write failed
pub record Writes (old new : Held) (output_lines : List OutputLine) : Type 0 where
  pub takes : TakesOutputLines old new output_lines
  pub output_faults : new.output.faults ≡ old.output.faults
  pub messages_faults : new.messages.faults ≡ old.messages.faults

-- ---- a stop within output lines

-- the refusal that is reported where a run stops
abbrev pub refusal_of : Stop → Refusal
refusal_of stop.Reading = ReadFault
refusal_of stop.Output = WriteFault
refusal_of stop.Messages = WriteFault
refusal_of stop.Memory = Memory

-- of these output lines those before some output line are written, and of that output line, which is for this writer, a
-- proper prefix
pub record BreaksOff (writer : List ℕ → OutputLine) (output_lines written : List OutputLine) : Type 0 where
  pub before : List OutputLine
  pub text : List ℕ
  pub after : List OutputLine
  pub taken : ℕ
  pub split : output_lines ≡ before ++ writer text ∷ after
  pub proper : taken < length text
  pub cut : written ≡ before ++ writer (take taken text) ∷ []

-- what is written of the output lines where a stop comes: a writer failed within an output line, or memory was refused
-- before one
abbrev pub IsCutBy : Stop → List OutputLine → List OutputLine → Type 0
IsCutBy stop.Reading output_lines written = ⊥
IsCutBy stop.Output output_lines written = BreaksOff Output output_lines written
IsCutBy stop.Messages output_lines written = BreaksOff Message output_lines written
IsCutBy stop.Memory output_lines written = (after : List OutputLine) × (output_lines ≡ written ++ after)

-- each of the writers took its output lines, in order, and no write failed but the last one of the writer that the stop
-- names
pub record WritesUntil (why : Stop) (old new : Held) (output_lines : List OutputLine) : Type 0 where
  pub takes : TakesOutputLines old new output_lines
  pub output_failed : why ≡ stop.Output → Fails old.output new.output
  pub output_faults : why ≢ stop.Output → new.output.faults ≡ old.output.faults
  pub messages_failed : why ≡ stop.Messages → Fails old.messages new.messages
  pub messages_faults : why ≢ stop.Messages → new.messages.faults ≡ old.messages.faults

-- ---- what every function that writes does

-- some of the output lines are written, as far as the stop lets them
abbrev pub StopsWithin : Stop → Held → Held → List OutputLine → Type 0
StopsWithin why old new output_lines =
    (written : List OutputLine) × WritesUntil why old new written × IsCutBy why output_lines written

-- all of the output lines are written, or some to a stop
abbrev pub Emits : {A : Type 0} → Held → Held → List OutputLine → Result A Stop → Type 0
Emits old new output_lines result =
    MatchResult result (λ _. Writes old new output_lines) (λ why. StopsWithin why old new output_lines)

-- memory stops a call before it writes anything, or where it can't be said that going on takes none
abbrev pub StopsForMemory : {A : Type 0} → Type 0 → Held → Held → Result A Stop → Type 0
StopsForMemory goes_on old new result = result ≡ Err stop.Memory → (new ≡ old) ⊎ (¬ goes_on)
