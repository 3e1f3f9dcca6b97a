-- What is known of the standard output.
use Rattle.std.specs.Prelude.{ℕ, Bool, List, Option}

-- the bytes that it took, the ones that its writer had before among them, where these are known; those that still wait
-- in its buffer; and whether a call of it failed
pub record Buffered : Type 0 where
  pub bytes : Option (List ℕ)
  pub waiting : List ℕ
  pub has_failed : Bool
