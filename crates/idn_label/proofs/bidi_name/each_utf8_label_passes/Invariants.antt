use Rattle.std.proofs.Common.{◌≡◌, ◌≤◌, ◌-◌, true, chars, length, drop}
use Rattle.std.specs.List.{AllByRecursion, list_all}
use Rattle.std.specs.Str.{IsUtf8}
use Rattle.idna.specs.BidiRule.{passes_bidi_rule}
use Rattle.idna.specs.Labels.{labels_of}
use Rattle.idn_label.specs.inner.BidiNames.{PassesIfRtl}
use Rattle.idn_label.proofs.bidi_name.each_utf8_label_passes.Given as goal

-- the labels before this one pass
abbrev pub invariant-labels : goal.invariant-labels
invariant-labels l = record {
  within : l.start ≤ length l.name;
  utf8 : IsUtf8 (drop l.start l.name);
  tested : l.are_rtl_tested ≡ true → AllByRecursion PassesIfRtl (labels_of (chars (drop l.start l.name)));
  passed : list_all passes_bidi_rule (labels_of (chars l.name)) ≡ list_all passes_bidi_rule (labels_of (chars (drop l.start l.name)));
}

abbrev pub decreases-labels : goal.decreases-labels
decreases-labels l = length l.name - l.start
