-- Dead prefixes: no label that begins so may be registered (RFC 5891, section 4.2), whatever follows.
use Rattle.std.specs.Prelude.{◌≡◌, ℕ, ◌≤◌, ◌<◌, Bool, true, false, not, ◌&&◌, ◌||◌, ◌==◌, IsTrue, List, length, map}
use Rattle.std.specs.Prelude.{take, Any, Contains, Option, Some, MatchOption, slice_get, slice_index}
use Rattle.std.specs.List.{list_any}
use Rattle.idn_class.specs.declared.bidi_class.BidiClass.{BidiClass}
use Rattle.idn_class.specs.declared.bidi_class.BidiClass.TheVariants.{EN, AN}
use Rattle.idn_class.specs.declared.properties.Properties.{Properties}
use Rattle.idn_class.specs.BidiClass.{bidi_class}
use Rattle.idn_class.specs.BidiRule.{IsRtl, is_rtl_class, is_allowed_in_rtl}
use Rattle.idn_class.specs.ContextO.{is_arabic_digit, is_extended_arabic_digit}
use Rattle.idn_class.specs.LeadingMark.{BeginsWithMark}
use Rattle.idn_class.specs.Tests.{leading_mark, has_both_numbers, is_rtl}

-- what an RTL label may not hold
abbrev pub is_barred_in_rtl : BidiClass → Bool
is_barred_in_rtl class = not (is_allowed_in_rtl class)

-- one of the tests has failed for good
pub data IsDeadPrefix (properties : Properties) (w : List ℕ) : Type 0 where
  -- HYPHEN-MINUS first, or both third and fourth (RFC 5891, section 4.2.3.1)
  Hyphen_first : slice_get w 0 ≡ Some 0x2D → IsDeadPrefix properties w
  Hyphens_third_and_fourth : slice_get w 2 ≡ Some 0x2D → slice_get w 3 ≡ Some 0x2D → IsDeadPrefix properties w
  -- a combining mark first (section 4.2.3.2)
  Mark_first : BeginsWithMark w → IsDeadPrefix properties w
  -- R, AL or AN where the first is neither R nor AL (RFC 5893, section 2, rules 1 and 5)
  Rtl_in_ltr : Any (λ class. IsTrue (is_rtl_class class)) (map (bidi_class properties) w)
      → ¬ IsRtl (map (bidi_class properties) w) → IsDeadPrefix properties w
  -- a class that is not allowed in an RTL label, where the first is R or AL (rule 2)
  Ltr_in_rtl : IsRtl (map (bidi_class properties) w)
      → Any (λ class. IsTrue (is_barred_in_rtl class)) (map (bidi_class properties) w) → IsDeadPrefix properties w
  -- both EN and AN where the first is R or AL (rule 4)
  Both_numbers_in_rtl : IsRtl (map (bidi_class properties) w) → Contains (map (bidi_class properties) w) EN
      → Contains (map (bidi_class properties) w) AN → IsDeadPrefix properties w
  -- ARABIC-INDIC and EXTENDED ARABIC-INDIC digits (RFC 5892, appendix A.8 and A.9)
  Both_kinds_of_digits : Any (λ c. IsTrue (is_arabic_digit c)) w → Any (λ c. IsTrue (is_extended_arabic_digit c)) w
      → IsDeadPrefix properties w

-- the first n code points are dead, and no fewer are
pub record IsShortestDeadPrefix (properties : Properties) (label : List ℕ) (n : ℕ) : Type 0 where
  pub within : n ≤ length label
  pub holds : IsDeadPrefix properties (take n label)
  pub first : (k : ℕ) → k < n → ¬ IsDeadPrefix properties (take k label)

-- the label has no dead prefix, and isn't one itself
abbrev pub HasNoDeadPrefix : Properties → List ℕ → Type 0
HasNoDeadPrefix properties label = (k : ℕ) → ¬ IsDeadPrefix properties (take k label)

-- the length of the shortest dead prefix of the label, if it has one
abbrev pub TellsDeadPrefix : Properties → List ℕ → Option ℕ → Type 0
TellsDeadPrefix properties label found =
    MatchOption found (HasNoDeadPrefix properties label) (IsShortestDeadPrefix properties label)

-- ---- dead, as a test that computes. Digits of both kinds need no test of their own: one kind is AN and
-- the other EN

abbrev pub begins_with_hyphen : List ℕ → Bool
begins_with_hyphen w = slice_index w 0 == 0x2D

abbrev pub has_hyphens_third_and_fourth : List ℕ → Bool
has_hyphens_third_and_fourth w = (slice_index w 2 == 0x2D) && (slice_index w 3 == 0x2D)

-- the classes break the Bidi rule for good: after a first that is R or AL, and after any other
abbrev pub breaks_bidi : Bool → List BidiClass → Bool
breaks_bidi true classes = list_any is_barred_in_rtl classes || has_both_numbers classes
breaks_bidi false classes = list_any is_rtl_class classes

unfoldable pub hopeless : Properties → List ℕ → Bool
hopeless properties w =
    begins_with_hyphen w || leading_mark w || breaks_bidi (is_rtl (map (bidi_class properties) w))
    (map (bidi_class properties) w) || has_hyphens_third_and_fourth w
