use Rattle.std.proofs.Common.{◌≡◌, ℕ, ◌<◌, true, not}
use Rattle.idn_cause.specs.Causes.{is_hyphen_out_of_place}
use Rattle.idn_cause.proofs.places.misplaced_hyphen.Given as goal

abbrev pub invariant-loop-place : goal.invariant-loop-place
invariant-loop-place l = (k : ℕ) → k < l.place → not (is_hyphen_out_of_place l.label k) ≡ true
