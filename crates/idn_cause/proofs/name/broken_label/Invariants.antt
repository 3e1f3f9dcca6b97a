use Rattle.std.proofs.Common.{◌≡◌, ◌≤◌, ◌-◌, drop, length}
use Rattle.idna.specs.Labels.{labels_of}
use Rattle.idn_cause.specs.NameCauses.{breaks_none}
use Rattle.idn_cause.specs.NameLabels.{first_failing_label}
use Rattle.idn_cause.proofs.name.broken_label.Given as goal

abbrev pub invariant-labels : goal.invariant-labels
invariant-labels l = record {
  so_far : first_failing_label (breaks_none l.properties) 0 (labels_of l.decoded) ≡ first_failing_label (breaks_none l.properties) l.number (labels_of (drop l.start l.decoded));
  within : l.start ≤ length l.decoded;
  counted : l.number ≤ l.start;
}

abbrev pub decreases-labels : goal.decreases-labels
decreases-labels l = length l.decoded - l.start
