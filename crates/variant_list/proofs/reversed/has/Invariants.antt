use Rattle.std.proofs.Common.{◌≡◌, ℕ, ◌<◌, Some}
use Rattle.std.specs.Prelude.{slice_get}
use Rattle.variant_list.specs.inner.Turned.{sequences_of}
use Rattle.variant_list.proofs.reversed.has.Given as goal

-- none so far is it
abbrev pub invariant-loop-other : goal.invariant-loop-other
invariant-loop-other l = (k : ℕ) → k < l.other-index → slice_get (sequences_of l.sequences) k ≡ Some l.sequence → ⊥
