-- Counts for which a number may have no room.
use Rattle.std.specs.Prelude.{◌≡◌, ℕ, ◌+◌, ◌^◌, ◌≤◌, ◌<◌, Option, Some, None}

-- so many, or more than a number has room for
abbrev pub IsCount : ℕ → Option ℕ → Type 0
IsCount n None = 2 ^ 64 ≤ n
IsCount n (Some m) = m ≡ n

-- what is left after n, or not enough
abbrev pub IsLeftAfter : ℕ → ℕ → Option ℕ → Type 0
IsLeftAfter n all None = all < n
IsLeftAfter n all (Some left) = left + n ≡ all
