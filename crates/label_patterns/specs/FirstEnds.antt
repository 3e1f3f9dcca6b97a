-- Where the first part of a label that a pattern matches ends.
use Rattle.std.specs.Prelude.{ℕ, ◌≤◌, length}
use Rattle.label_patterns.specs.Patterns.{Pattern}
use Rattle.label_patterns.specs.Matches.{Seen, Matches}

-- a part that the pattern matches ends at this place of the label, and none ends before it
pub record IsFirstEnd (seen : Seen) (p : Pattern) (end : ℕ) : Type 0 where
  pub start : (i : ℕ) × (i ≤ end) × Matches seen p i end
  pub within : end ≤ length seen.label
  pub least : (i j : ℕ) → i ≤ length seen.label → Matches seen p i j → end ≤ j
