-- How much two labels share at their start.
use Rattle.std.specs.Prelude.{◌≡◌, ℕ, ◌≤◌, List, length, take}

-- the two share no beginning of more than so many code points
abbrev pub IsLongestShared : List ℕ → List ℕ → ℕ → Type 0
IsLongestShared a b count = (n : ℕ) → n ≤ length a → n ≤ length b → take n a ≡ take n b → n ≤ count
