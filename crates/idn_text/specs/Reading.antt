-- The numbered lines of what a reader gave.
use Rattle.std.specs.Prelude.{◌≡◌, ◌≢◌, ℕ, ◌+◌, ◌^◌, ◌⊎◌, ◌<◌, ◌≤◌, List, [], ◌∷◌, ◌++◌, length, take, Option, Some}
use Rattle.std.specs.Prelude.{None, Bool, true, false, Result, Ok, Err}
use Rattle.std.specs.Io.KnownBytes.{Consumes}
use Rattle.std.specs.Option.{option_map}
use Rattle.std.specs.Str.Lines.{strip_carriage_return}
use Rattle.idn_text.specs.declared.lines.Line.{Line}
use Rattle.idn_text.specs.declared.buffered_reader.ReadFault.{ReadFault}
use Rattle.idn_text.specs.declared.lines.State.{State}
use Rattle.idn_text.specs.declared.lines.State.TheVariants.{Open, Ended, Stopped}
use Rattle.idn_text.specs.Bodies.{bytes_of}
use Rattle.idn_text.specs.Lines.{Numbered, EndsInFeed, raw_lines, lines_of, ended_lines_of}
use Rattle.idn_text.specs.Readers.{Reader, Fails}
use Rattle.idn_text.specs.Taking.{BufferedReader, left, HasEnded, HasFailed}

-- where the reading of lines has come to: its input, the number of the last line, and whether more may come
pub record Reading : Type 0 where
  pub input : BufferedReader
  pub number : ℕ
  pub state : State

-- the lines of a reader of which none was read yet
abbrev pub unread : Reader → Reading
unread reader =
    record { input = record { held = []; line = Some []; reader = reader; reads = 0 }; number = 0; state = Open }

-- none was read yet
pub record IsUnread (reading : Reading) : Type 0 where
  pub held : reading.input.held ≡ []
  pub reads : reading.input.reads ≡ 0
  pub number : reading.number ≡ 0
  pub state : reading.state ≡ Open

-- these are the lines of the bytes that were given:
--   while more may come, all of them, each ended by a line feed;
--   at the end of the reader, all of them;
--   at a fault, those that a line feed ends, the first 4,294,967,296 of them, and either a read failed or the reader
--   was called as often as it may be, and it gave no more than these bytes, or no read failed and these bytes have more
--   lines than may be
abbrev pub AreLines : State → BufferedReader → BufferedReader → List ℕ → List Numbered → Type 0
AreLines Open start now given lines = (lines ≡ lines_of given) × EndsInFeed given
AreLines Ended start now given lines = (lines ≡ lines_of given) × HasEnded now
AreLines Stopped start now given lines =
    (lines ≡ take (2 ^ 32) (ended_lines_of given))
    × (HasFailed start now ⊎ ((2 ^ 32 < length (raw_lines given)) × (now.reader.faults ≡ start.reader.faults)))

-- how many read calls gave no byte, at most: the one that met the end or the fault
abbrev pub idle_reads : State → ℕ
idle_reads Open = 0
idle_reads Ended = 1
idle_reads Stopped = 1

-- from the start to now these bytes were given and these lines of them were read, and each read call but the idle ones
-- gave a byte or more; none is uncounted, and none failed but one that stopped the reading
pub record HasRead (start now : Reading) (given : List ℕ) (lines : List Numbered) : Type 0 where
  pub taken : Consumes (left start.input) (left now.input) given
  pub asked : now.input.reads + length start.input.held ≤ start.input.reads + length given + length
      now.input.held + idle_reads now.state
  pub called : now.input.reader.calls + start.input.reads ≤ start.input.reader.calls + now.input.reads
  pub no_fault : now.state ≢ Stopped → now.input.reader.faults ≡ start.input.reader.faults
  pub counted : now.number ≡ length lines
  pub few : now.number ≤ 2 ^ 32
  pub read : AreLines now.state start.input now.input given lines

-- between these two a read failed, the last, or none did and a bound was met
abbrev pub HasStopped : Reading → Reading → Type 0
HasStopped old new =
    Fails old.input.reader new.input.reader
    ⊎ (((new.input.reads ≡ 2 ^ 40) ⊎ (new.number ≡ 2 ^ 32)) × (new.input.reader.faults ≡ old.input.reader.faults))

-- the line that the last call went on to, if it went on to one
abbrev pub line_at : Reading → Numbered
line_at reading = record { number = reading.number; body = option_map strip_carriage_return reading.input.line }

-- the lines that a call answered, which says whether it went on to a next line
abbrev pub answered : Result Bool ReadFault → Reading → List Numbered
answered (Ok true) new = line_at new ∷ []
answered (Ok false) new = []
answered (Err fault) new = []

-- where lines were read of the bytes given so far, these were read next
abbrev pub ReadsNext : Reading → Reading → List Numbered → Type 0
ReadsNext old new next = (start : Reading) (given : List ℕ) (lines : List Numbered) → HasRead start old given lines →
    (more : List ℕ) × HasRead start new (given ++ more) (lines ++ next)

-- the state that such a call leaves
abbrev pub IsLeftBy : Result Bool ReadFault → Reading → Type 0
IsLeftBy (Ok true) new = (new.state ≡ Open) ⊎ (new.state ≡ Ended)
IsLeftBy (Ok false) new = new.state ≡ Ended
IsLeftBy (Err fault) new = new.state ≡ Stopped

-- a line as its number and its body
abbrev pub numbered_line : Line → Numbered
numbered_line line = record { number = line.number; body = bytes_of line.body }

-- whether there was a line
abbrev pub has_line : Result (Option Line) ReadFault → Result Bool ReadFault
has_line (Ok (Some line)) = Ok true
has_line (Ok None) = Ok false
has_line (Err fault) = Err fault
