use Rattle.std.proofs.Common.{◌≡◌, ℕ, ◌<◌, ◌≤◌, length}
use Rattle.std.specs.Prelude.{[], slice_index, slice_index_or}
use Rattle.label_patterns.specs.inner.Masks.{AreMasksTo}
use Rattle.label_patterns.specs.CachedPlaces.{AreThePlacesBelow}
use Rattle.label_patterns.specs.Sets.{is_in}
use Rattle.label_patterns.proofs.seen_label.renew_masks.Given as goal

-- the masks of the sets so far, and what is kept of the others
abbrev pub invariant-loop-number : goal.invariant-loop-number
invariant-loop-number l = record {
  room : length l.masks ≡ length l.sets;
  masks : AreMasksTo l.number l.sets l.label l.masks;
  kept : (m : ℕ) → l.number ≤ m → m < length l.sets → AreThePlacesBelow l.shared (is_in (slice_index_or l.sets m [])) l.label (slice_index l.masks m);
}
