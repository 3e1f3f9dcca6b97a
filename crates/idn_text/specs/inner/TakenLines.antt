-- A line taken from what a reader gave, what is kept of it, and where that stands.
use Rattle.std.specs.Prelude.{ℕ, ◌+◌, ◌≤◌, Bool, List, [], ◌∷◌, ◌++◌, length, slice_range, Option, Some, None}
use Rattle.std.specs.Prelude.{if◌then◌else◌}
use Rattle.std.specs.Io.KnownBytes.{Consumes}
use Rattle.idn_text.specs.Lines.{HasNoFeed, is_long_line}
use Rattle.idn_text.specs.Taking.{BufferedReader, HasFailed, left}
use Rattle.idn_text.specs.declared.buffered_reader.LinePlace.{LinePlace}
use Rattle.idn_text.specs.declared.buffered_reader.LinePlace.TheVariants.{Text, TooLong}

-- these bytes without a line feed, and then these, were taken; of the read calls between, none uncounted,
-- all but so many gave a byte
pub record TakesLine (old new : BufferedReader) (line feed : List ℕ) (idle : ℕ) : Type 0 where
  pub no_feed : HasNoFeed line
  pub taken : Consumes (left old) (left new) (line ++ feed)
  pub asked : new.reads + length old.held ≤ old.reads + length (line ++ feed) + length new.held + idle
  pub called : new.reader.calls + old.reads ≤ old.reader.calls + new.reads

-- a line was taken through its line feed, or else through the end of what the reader gives
abbrev pub TakesThrough : BufferedReader → BufferedReader → List ℕ → Bool → Type 0
TakesThrough old new line has_feed =
    TakesLine old new line (if has_feed then 10 ∷ [] else []) (if has_feed then 0 else 1)

-- a read failed before the line had ended, and what came of it is taken
abbrev pub FailsInLine : BufferedReader → BufferedReader → Type 0
FailsInLine old new = (line : List ℕ) × TakesLine old new line [] 1 × HasFailed old new

-- what is kept of a line: its bytes, unless it is too long
abbrev pub kept : List ℕ → Option (List ℕ)
kept line = if is_long_line line then None else Some line

-- what stands at a place of the buffer, none where the line is too long
abbrev pub at_place : List ℕ → LinePlace → Option (List ℕ)
at_place buffer (Text start stop) = Some (slice_range buffer start stop)
at_place buffer TooLong = None

-- the place lies in the buffer (BUFFER_LEN bytes), and has no more bytes than a line may have (MAX_LINE_LEN)
abbrev pub IsPlaceOfLine : LinePlace → Type 0
IsPlaceOfLine (Text start stop) = (start ≤ stop) × (stop ≤ 16384) × (stop ≤ start + 1024)
IsPlaceOfLine TooLong = Unit {0}
