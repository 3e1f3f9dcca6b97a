-- The reader and the writer for tests: what each has, and when the reader fails.
use Rattle.std.specs.Prelude.{◌≡◌, ℕ, ◌-◌, Bool, List, ◌==◌, ◌&&◌, min, nat_le, nat_lt, length, take, if◌then◌else◌}
use Rattle.idn_text.specs.declared.hostile.StopReader.{StopReader}
use Rattle.idn_text.specs.declared.hostile.StopWriter.{StopWriter}

-- the bytes that the reader will give
abbrev pub rest_of : StopReader → List ℕ
rest_of reader = reader.rest.now

-- how many bytes it gives in a call at most
abbrev pub given_at_once : StopReader → ℕ
given_at_once reader = reader.piece

-- the number of the call at which it fails, from 1, or 0
abbrev pub fail_at_of : StopReader → ℕ
fail_at_of reader = reader.fail_at

-- that call alone fails
abbrev pub fails_once : StopReader → Bool
fails_once reader = reader.once

-- how many calls there were
abbrev pub calls_of : StopReader → ℕ
calls_of reader = reader.calls

-- whether the call of this number fails: the one at which to fail, from 1, and all later ones unless once
abbrev pub fails_at : StopReader → ℕ → Bool
fails_at reader call =
    if fails_once reader then call == fail_at_of reader
    else nat_lt 0 (fail_at_of reader) && nat_le (fail_at_of reader) call

-- how many bytes it gives into room for so many
abbrev pub given_into : StopReader → ℕ → ℕ
given_into reader room = min (min room (given_at_once reader)) (length (rest_of reader))

-- both give as many at once, and fail at the same calls
pub record HasOneBehavior (old new : StopReader) : Type 0 where
  pub given : given_at_once new ≡ given_at_once old
  pub fail_at : fail_at_of new ≡ fail_at_of old
  pub once : fails_once new ≡ fails_once old

-- where the writer puts the bytes that it takes
abbrev pub room_of : StopWriter → List ℕ
room_of writer = writer.room.now

-- how many bytes it has taken
abbrev pub taken_of : StopWriter → ℕ
taken_of writer = writer.taken

-- how many bytes it takes in a call at most
abbrev pub taken_at_once : StopWriter → ℕ
taken_at_once writer = writer.piece

-- the bytes that it has taken
abbrev pub contents_of : StopWriter → List ℕ
contents_of writer = take (taken_of writer) (room_of writer)

-- how many bytes it takes of so many
abbrev pub taken_out_of : StopWriter → ℕ → ℕ
taken_out_of writer count = min (min count (taken_at_once writer)) (length (room_of writer) - taken_of writer)
