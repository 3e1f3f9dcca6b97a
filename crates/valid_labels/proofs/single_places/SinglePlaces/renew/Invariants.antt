use Rattle.std.proofs.Common.{◌≡◌, ℕ}
use Rattle.valid_labels.specs.inner.Singles.{AreSingles, HasRoom}
use Rattle.valid_labels.proofs.single_places.SinglePlaces.renew.Given as goal

-- the places so far
abbrev pub invariant-loop-place : goal.invariant-loop-place
invariant-loop-place l = record {
  singles : AreSingles l.place l.fn.points l.label l.self;
  same : l.points ≡ l.fn.points;
  room : (n : ℕ) → HasRoom n l.fn.self → HasRoom n l.self;
}
