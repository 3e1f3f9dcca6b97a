use Rattle.std.proofs.Common.{◌≡◌, length}
use Rattle.label_patterns.specs.inner.Masks.{AreMasksTo}
use Rattle.label_patterns.proofs.seen_label.SeenLabel.new.Given as goal

-- the masks of the sets so far
abbrev pub invariant-loop-number : goal.invariant-loop-number
invariant-loop-number l = record {
  room : length l.masks ≡ length l.sets;
  masks : AreMasksTo l.number l.sets l.label l.masks;
}
