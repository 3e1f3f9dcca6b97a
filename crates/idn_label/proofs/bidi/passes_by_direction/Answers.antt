use Rattle.std.proofs.Common.{◌≡◌, ◌+◌, Bool, true, false, not, ◌||◌, ◌&&◌, List, map, take, drop, take_all, arith, refl, ap, if◌then◌else◌}
use Rattle.std.specs.List.{list_all}
use Rattle.ucd_bidi.specs.BidiClass.{bidi_class, bidi_class_eq}
use Rattle.ucd_bidi.specs.declared.BidiClass.{BidiClass}
use Rattle.ucd_bidi.specs.declared.BidiClass.TheVariants.{ArabicNumber, EuropeanNumber, LeftToRight}
use Rattle.idna.specs.BidiRule.{is_rtl, is_allowed_in_both, end_class, has_class, passes_as_rtl, passes_as_ltr}
use Rattle.idna.proofs.ValidityLemmas.{list_all_fails, classes_read}
use Rattle.idn_label.proofs.bidi.passes_by_direction.Goals as goal

pub returns-then-not-is_allowed_in_both : goal.returns-then-not-is_allowed_in_both
returns-then-not-is_allowed_in_both c =
    let class = c.for_char-class.ensures in
    let k = bidi_class c.c-item.result in
    let fails : ((if c.args.rtl then is_rtl k else bidi_class_eq k LeftToRight) || is_allowed_in_both k) ≡ false = grind arith in
    let none = list_all_fails (λ k. (if c.args.rtl then is_rtl k else bidi_class_eq k LeftToRight) || is_allowed_in_both k) (map bidi_class (take c.loop-c.c-index c.args.label.now)) k (map bidi_class (drop (c.loop-c.c-index + 1) c.args.label.now)) fails in
    rw ((classes_read _ _ _ c.loop-c-test.true c.c-item.is).1) (grind (arith, none))

decided : (rtl : Bool) (classes : List BidiClass) (arabic : Bool) → list_all (λ class. (if rtl then is_rtl class else bidi_class_eq class LeftToRight) || is_allowed_in_both class) classes ≡ true → arabic ≡ has_class ArabicNumber classes → (rtl ≡ false → arabic ≡ false) → (((if rtl then is_rtl (end_class classes) else bidi_class_eq (end_class classes) LeftToRight) || bidi_class_eq (end_class classes) EuropeanNumber) && not (has_class EuropeanNumber classes && arabic)) ≡ (if rtl then passes_as_rtl classes else passes_as_ltr classes)
decided true classes arabic allowed is none = rw (allowed, is) refl
decided false classes arabic allowed is none = rw (allowed, none refl) (grind arith)

pub returns : goal.returns
returns c =
    let i = c.loop-c.invariant in
    let classes = map bidi_class (take c.loop-c.c-index c.args.label.now) in
    let all : take c.loop-c.c-index c.args.label.now ≡ c.args.label.now = take_all c.loop-c.c-index c.args.label.now (omega (arith, c.loop-c-test.false)) in
    rw (c.has_direction-2.ensures, c.is_class-2.ensures, i.end, i.european, ← ap (map bidi_class) all) (decided c.args.rtl classes c.loop-c.has_arabic i.allowed i.arabic i.none)
