use Rattle.std.proofs.Common.{◌≡◌, ◌≤◌, ◌-◌, length, drop}
use Rattle.std.specs.List.{list_all}
use Rattle.idna.specs.BidiRule.{passes_bidi_rule}
use Rattle.idna.specs.Labels.{labels_of}
use Rattle.idn_label.proofs.bidi_name.each_label_passes.Given as goal

-- the labels before this one pass
abbrev pub invariant-labels : goal.invariant-labels
invariant-labels l = record {
  within : l.start ≤ length l.name;
  passed : list_all passes_bidi_rule (labels_of l.name) ≡ list_all passes_bidi_rule (labels_of (drop l.start l.name));
}

abbrev pub decreases-labels : goal.decreases-labels
decreases-labels l = length l.name - l.start
