use Rattle.std.proofs.Common.{◌≡◌, ℕ, ◌<◌, ◌≤◌, length, map, slice_get, Some}
use Rattle.idn_class.specs.declared.bidi_class.BidiClass.TheVariants.{NSM}
use Rattle.idn_class.specs.BidiClass.{bidi_class}
use Rattle.idn_class.proofs.bidi.ends_in_end_of_rtl.Given as goal

abbrev pub invariant-loop-end : goal.invariant-loop-end
invariant-loop-end l = record { within : l.end ≤ length l.label; rest : (k : ℕ) → l.end ≤ k → k < length l.label → slice_get (map (bidi_class l.properties) l.label) k ≡ Some NSM }

abbrev pub decreases-loop-end : goal.decreases-loop-end
decreases-loop-end l = l.end
