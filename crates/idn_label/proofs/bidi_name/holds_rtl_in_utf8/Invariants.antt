use Rattle.std.proofs.Common.{◌≡◌, ◌≤◌, ◌-◌, List, ℕ, false, length, take}
use Rattle.std.specs.List.{list_any}
use Rattle.ucd_bidi.specs.BidiClass.{bidi_class}
use Rattle.idna.specs.BidiRule.{is_rtl}
use Rattle.idn_text.specs.Points.{IsUtf8Of}
use Rattle.idn_label.proofs.bidi_name.holds_rtl_in_utf8.Given as goal

-- none of the characters so far is right-to-left
abbrev pub invariant-loop-at : goal.invariant-loop-at
invariant-loop-at l = record {
  within : l.at ≤ length l.name;
  points : List ℕ;
  read : IsUtf8Of (take l.at l.name) points;
  none : list_any (λ c. is_rtl (bidi_class c)) points ≡ false;
}

abbrev pub decreases-loop-at : goal.decreases-loop-at
decreases-loop-at l = length l.name - l.at
