use Rattle.std.proofs.Common.{◌≡◌, ◌<◌, ◌≤◌, ℕ, length, slice_index}
use Rattle.label_patterns.specs.Places.{Has}
use Rattle.valid_labels.proofs.single_places.keep_first.Given as goal

-- the sets so far, and the others as they were
abbrev pub invariant-loop-number : goal.invariant-loop-number
invariant-loop-number l = record {
  room : length l.sets ≡ length l.initial.sets;
  first : (m i : ℕ) → m < l.number → Has (slice_index l.sets m) i → (i < l.shared) × Has (slice_index l.initial.sets m) i;
  rest : (m : ℕ) → l.number ≤ m → slice_index l.sets m ≡ slice_index l.initial.sets m;
}
