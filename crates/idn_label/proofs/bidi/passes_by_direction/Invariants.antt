use Rattle.std.proofs.Common.{◌≡◌, true, false, ◌||◌, map, take, if◌then◌else◌}
use Rattle.std.specs.List.{list_all}
use Rattle.ucd_bidi.specs.BidiClass.{bidi_class, bidi_class_eq}
use Rattle.ucd_bidi.specs.declared.BidiClass.TheVariants.{ArabicNumber, EuropeanNumber, LeftToRight}
use Rattle.idna.specs.BidiRule.{is_rtl, is_allowed_in_both, end_class, has_class}
use Rattle.idn_label.proofs.bidi.passes_by_direction.Given as goal

-- the classes so far are allowed, this one ends them, and these digits are among them, Arabic ones in a right-to-left label alone
abbrev pub invariant-loop-c : goal.invariant-loop-c
invariant-loop-c l = record {
  allowed : list_all (λ class. (if l.rtl then is_rtl class else bidi_class_eq class LeftToRight) || is_allowed_in_both class) (map bidi_class (take l.c-index l.label)) ≡ true;
  end : l.end ≡ end_class (map bidi_class (take l.c-index l.label));
  european : l.has_european ≡ has_class EuropeanNumber (map bidi_class (take l.c-index l.label));
  arabic : l.has_arabic ≡ has_class ArabicNumber (map bidi_class (take l.c-index l.label));
  none : l.rtl ≡ false → l.has_arabic ≡ false;
}
