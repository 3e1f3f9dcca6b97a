use Rattle.std.proofs.Common.{◌≡◌, ◌≤◌, ◌-◌, drop, length}
use Rattle.idna.specs.Labels.{labels_of}
use Rattle.idn_cause.specs.NameCauses.{label_of_number}
use Rattle.idn_cause.proofs.name.is_coded.Given as goal

abbrev pub invariant-labels : goal.invariant-labels
invariant-labels l = record {
  so_far : label_of_number l.number (labels_of l.name) ≡ label_of_number l.before (labels_of (drop l.start l.name));
  within : l.start ≤ length l.name;
}

abbrev pub decreases-labels : goal.decreases-labels
decreases-labels l = length l.name - l.start
