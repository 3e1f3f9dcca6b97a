use Rattle.std.proofs.Common.{◌≡◌, ◌≤◌, ◌-◌, drop, length}
use Rattle.idna.specs.Labels.{labels_of}
use Rattle.idn_cause.specs.NameCauses.{is_decoded}
use Rattle.idn_cause.specs.NameLabels.{first_failing_label}
use Rattle.idn_cause.proofs.name.name_cause.Given as goal

abbrev pub invariant-labels : goal.invariant-labels
invariant-labels l = record {
  so_far : first_failing_label (is_decoded l.properties) 0 (labels_of l.name) ≡ first_failing_label (is_decoded l.properties) l.number (labels_of (drop l.start l.name));
  within : l.start ≤ length l.name;
  counted : l.number ≤ l.start;
}

abbrev pub decreases-labels : goal.decreases-labels
decreases-labels l = length l.name - l.start
