use Rattle.std.proofs.Common.{◌≤◌, ◌-◌, length}
use Rattle.idn_label.proofs.LdhEndLemmas.{AreLdh}
use Rattle.idn_label.proofs.ldh.ldh_end.Given as goal

abbrev pub invariant-loop-at : goal.invariant-loop-at
invariant-loop-at l = record {
  order : l.start ≤ l.at;
  within : l.at ≤ length l.text;
  ldh : AreLdh l.text l.start l.at;
}

abbrev pub decreases-loop-at : goal.decreases-loop-at
decreases-loop-at l = length l.text - l.at
