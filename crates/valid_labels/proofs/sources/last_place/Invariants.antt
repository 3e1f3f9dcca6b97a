use Rattle.std.proofs.Common.{ℕ, ◌<◌, ◌≤◌}
use Rattle.label_patterns.specs.Places.{Has}
use Rattle.valid_labels.proofs.sources.last_place.Given as goal

-- no greater place is in the set
abbrev pub invariant-loop-place : goal.invariant-loop-place
invariant-loop-place l = record {
  within : l.place ≤ l.len;
  greatest : (p : ℕ) → l.place < p → p ≤ l.len → Has l.places p → ⊥;
}

abbrev pub decreases-loop-place : goal.decreases-loop-place
decreases-loop-place l = l.place
