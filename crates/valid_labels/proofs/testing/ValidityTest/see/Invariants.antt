use Rattle.std.proofs.Common.{◌≡◌, take}
use Rattle.valid_labels.proofs.testing.ValidityTest.see.Given as goal

-- the code points so far
abbrev pub invariant-loop-place : goal.invariant-loop-place
invariant-loop-place l = record {
  cached : l.self-inside.cached ≡ take l.place l.label;
  points : l.self-inside.points ≡ l.initial.self-inside.points;
  masks : l.self-inside.masks ≡ l.initial.self-inside.masks;
  singles : l.self-inside.singles ≡ l.initial.self-inside.singles;
}
