-- How far a label goes before it is dead, code point by code point.
use Rattle.std.specs.Prelude.{◌≡◌, ℕ, ◌≤◌, ◌<◌, Bool, true, false, ◌||◌, ◌==◌, List, length, map, take, Option, Some}
use Rattle.std.specs.Prelude.{None, MatchOption, if◌then◌else◌}
use Rattle.std.specs.List.{list_any}
use Rattle.idn_class.specs.declared.bidi_class.BidiClass.{BidiClass}
use Rattle.idn_class.specs.declared.bidi_class.BidiClass.TheVariants.{L, R, AL, AN, EN, Other}
use Rattle.idn_class.specs.declared.properties.Properties.{Properties}
use Rattle.idn_class.specs.declared.direction.Direction.{Direction}
use Rattle.idn_class.specs.declared.direction.Direction.TheVariants.{Ltr, Rtl, RtlEuropean, RtlArabic}
use Rattle.idn_class.specs.BidiClass.{bidi_class}
use Rattle.idn_class.specs.BidiRule.{is_rtl_class}
use Rattle.idn_class.specs.LeadingMark.{is_mark}
use Rattle.idn_class.specs.Tests.{leading_mark, is_en, is_an, is_rtl}
use Rattle.idn_class.specs.DeadPrefixes.{begins_with_hyphen, breaks_bidi, is_barred_in_rtl}

-- the first n code points pass the test, and no fewer do
pub record IsShortest (test : List ℕ → Bool) (label : List ℕ) (n : ℕ) : Type 0 where
  pub within : n ≤ length label
  pub holds : test (take n label) ≡ true
  pub first : (k : ℕ) → k < n → test (take k label) ≡ false

-- neither a beginning nor the whole passes the test
abbrev pub HasNone : (List ℕ → Bool) → List ℕ → Type 0
HasNone test label = (k : ℕ) → test (take k label) ≡ false

-- the length of the shortest beginning that passes the test, if there is one
abbrev pub TellsShortest : (List ℕ → Bool) → List ℕ → Option ℕ → Type 0
TellsShortest test label found = MatchOption found (HasNone test label) (IsShortest test label)

-- a list is dead by its first code point or by the Bidi rule
abbrev pub breaks_at_first : Properties → List ℕ → Bool
breaks_at_first properties w =
    begins_with_hyphen w || leading_mark w || breaks_bidi (is_rtl (map (bidi_class properties) w))
    (map (bidi_class properties) w)

-- after code points of this direction, a list breaks the Bidi rule for good
abbrev pub breaks_after : Properties → Direction → List ℕ → Bool
breaks_after properties Ltr w = list_any is_rtl_class (map (bidi_class properties) w)
breaks_after properties Rtl w = breaks_bidi true (map (bidi_class properties) w)
breaks_after properties RtlEuropean w =
    list_any is_barred_in_rtl (map (bidi_class properties) w) || list_any is_an (map (bidi_class properties) w)
breaks_after properties RtlArabic w =
    list_any is_barred_in_rtl (map (bidi_class properties) w) || list_any is_en (map (bidi_class properties) w)

-- the direction of a first class, where a label may begin with it
abbrev pub begun_by : BidiClass → Option Direction
begun_by R = Some Rtl
begun_by AL = Some Rtl
begun_by AN = None
begun_by _ = Some Ltr

abbrev pub begun_in : Properties → ℕ → Option Direction
begun_in properties c = if (c == 0x2D) || is_mark c then None else begun_by (bidi_class properties c)

abbrev pub rtl_lengthened : Direction → BidiClass → Option Direction
rtl_lengthened direction L = None
rtl_lengthened direction Other = None
rtl_lengthened Rtl EN = Some RtlEuropean
rtl_lengthened RtlArabic EN = None
rtl_lengthened Rtl AN = Some RtlArabic
rtl_lengthened RtlEuropean AN = None
rtl_lengthened direction class = Some direction

-- the direction once a code point follows, where it may
abbrev pub lengthened : Properties → Direction → ℕ → Option Direction
lengthened properties Ltr c = if is_rtl_class (bidi_class properties c) then None else Some Ltr
lengthened properties direction c = rtl_lengthened direction (bidi_class properties c)
