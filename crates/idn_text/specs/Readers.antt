-- What is known of a reader.
use Rattle.std.specs.Prelude.{◌≡◌, ℕ, suc, ◌+◌, ◌≤◌, Bool, true, List, Option, Result}
use Rattle.std.specs.Option.{option_map}
use Rattle.std.specs.Io.KnownBytes.{ReadConsumes}
use Rattle.idn_text.specs.Devices.{get_fails, faults_after}

-- the bytes that it will give from here on, where they are known; whether its last read failed; how many reads were
-- made; and how many failed, where it counts them
pub record Reader : Type 0 where
  pub remaining : Option (List ℕ)
  pub has_failed : Bool
  pub calls : ℕ
  pub faults : Option ℕ

-- one read of it into a buffer, with this outcome
pub record Gets {E : Type 0} (old new : Reader) (buffer : List ℕ) (result : Result ℕ E) : Type 0 where
  pub bytes : ReadConsumes old.remaining new.remaining result buffer
  pub failed : new.has_failed ≡ get_fails result
  pub called : new.calls ≤ old.calls + 1
  pub counted : new.faults ≡ faults_after (get_fails result) old.faults

-- of the reads between one failed, the last
pub record Fails (old new : Reader) : Type 0 where
  pub last : new.has_failed ≡ true
  pub one : new.faults ≡ option_map suc old.faults
