-- Lines taken from what a reader gave.
use Rattle.std.specs.Prelude.{◌≡◌, ℕ, ◌^◌, ◌⊎◌, List, [], Option}
use Rattle.std.specs.Io.KnownBytes.{IsAtEnd, prepend_known}
use Rattle.idn_text.specs.Readers.{Reader, Fails}

-- a reader, with the bytes that it gave and that no line has taken yet, and the line that was taken last, none where
-- that is too long
pub record BufferedReader : Type 0 where
  pub held : List ℕ
  pub line : Option (List ℕ)
  pub reader : Reader
  pub reads : ℕ

-- the bytes that no line has taken, where they are known
abbrev pub left : BufferedReader → Option (List ℕ)
left input = prepend_known input.held input.reader.remaining

-- the reader is at its end, and all that it gave is taken
pub record HasEnded (input : BufferedReader) : Type 0 where
  pub held : input.held ≡ []
  pub coming : IsAtEnd input.reader.remaining

-- between these two a read failed, the last, or none did and the reader was called as often as it may be; and all that
-- it gave is taken
pub record HasFailed (old new : BufferedReader) : Type 0 where
  pub held : new.held ≡ []
  pub cause : Fails old.reader new.reader ⊎ ((new.reads ≡ 2 ^ 40) × (new.reader.faults ≡ old.reader.faults))
