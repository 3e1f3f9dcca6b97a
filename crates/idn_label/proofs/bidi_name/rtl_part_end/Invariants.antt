use Rattle.std.proofs.Common.{◌-◌, ◌≤◌, length}
use Rattle.idn_label.specs.inner.BidiNames.{MeetsRule}
use Rattle.idn_label.proofs.LabelParts.{IsRtlEnd, IsRtlPart}
use Rattle.idn_label.proofs.bidi_name.rtl_part_end.Given as goal

abbrev pub invariant-parts : goal.invariant-parts
invariant-parts l = record {
  part : IsRtlPart l.name l.start l.at;
  told : MeetsRule l.name l.start l.end;
}

abbrev pub decreases-parts : goal.decreases-parts
decreases-parts l = length l.name - l.at

abbrev pub invariant-loop-at : goal.invariant-loop-at
invariant-loop-at l = record {
  order : l.initial.at ≤ l.at;
  told : IsRtlEnd l.name l.start l.at;
}

abbrev pub decreases-loop-at : goal.decreases-loop-at
decreases-loop-at l = length l.name - l.at
