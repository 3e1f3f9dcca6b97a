-- What one label shares with another one at its start, and what may be cached of that.
use Rattle.std.specs.Prelude.{◌≡◌, ℕ, ◌≤◌, List, length, take}
use Rattle.idn_class.specs.Shared.{IsLongestShared}

-- both labels begin with the same n code points, and with no more
pub record IsShared (a b : List ℕ) (n : ℕ) : Type 0 where
  pub in_first : n ≤ length a
  pub in_second : n ≤ length b
  pub same : take n a ≡ take n b
  pub longest : IsLongestShared a b n

-- both labels begin with the same n code points of a text, and with no more of it
pub record IsSharedThrough (text a b : List ℕ) (n : ℕ) : Type 0 where
  pub in_first : n ≤ length a
  pub in_second : n ≤ length b
  pub first : take n a ≡ take n text
  pub second : take n b ≡ take n text
  pub longest : (m : ℕ) → m ≤ length a → m ≤ length b → take m a ≡ take m text → take m b ≡ take m text → m ≤ n

-- what is cached is of a label that begins with the same n code points
pub record IsKeptOf (keeps : List ℕ → Type 0) (n : ℕ) (label : List ℕ) : Type 0 where
  pub before : List ℕ
  pub kept : keeps before
  pub same : take n before ≡ take n label
