use Rattle.std.proofs.Common.{◌≡◌, ℕ, ◌<◌, true, slice_index}
use Rattle.std.specs.Option.{is_none}
use Rattle.idn_class.specs.Class.{class_of}
use Rattle.idn_label.specs.FirstFault.{fault_of_class}
use Rattle.idn_cause.proofs.places.barred_place.Given as goal

abbrev pub invariant-loop-place : goal.invariant-loop-place
invariant-loop-place l = (k : ℕ) → k < l.place → is_none (fault_of_class (class_of l.properties (slice_index l.label k))) ≡ true
