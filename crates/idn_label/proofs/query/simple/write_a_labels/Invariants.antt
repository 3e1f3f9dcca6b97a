use Rattle.std.proofs.Common.{◌-◌, length}
use Rattle.idn_label.proofs.SimpleNames.{IsWritten}
use Rattle.idn_label.proofs.query.simple.write_a_labels.Given as goal

abbrev pub invariant-labels : goal.invariant-labels
invariant-labels l = IsWritten l.facts l.name l.start l.query.items

abbrev pub decreases-labels : goal.decreases-labels
decreases-labels l = length l.name - l.start
