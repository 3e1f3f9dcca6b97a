use Rattle.std.proofs.Common.{◌≡◌, ℕ, ◌<◌, true, slice_index}
use Rattle.std.specs.Char.{is_ascii}
use Rattle.idn_cause.proofs.a_label.past_ascii.Given as goal

abbrev pub invariant-loop-place : goal.invariant-loop-place
invariant-loop-place l = (k : ℕ) → k < l.place → is_ascii (slice_index l.code k) ≡ true
