-- Bidi_Class (RFC 5893, section 1.4): by this profile's own list, which is the definition, or by Unicode's data.
use Rattle.std.specs.Prelude.{ℕ, Bool, true, false, [], ◌∷◌, if◌then◌else◌}
use Rattle.ucd_table.specs.Rows.{in_ranges}
use Rattle.ucd_category.specs.declared.GeneralCategory.{GeneralCategory}
use Rattle.ucd_category.specs.declared.GeneralCategory.TheVariants.{NonspacingMark as Mn, EnclosingMark as Me}
use Rattle.ucd_bidi.specs.declared.BidiClass.{BidiClass as UnicodeBidiClass}
use Rattle.ucd_bidi.specs.declared.BidiClass.TheVariants as unicode
use Rattle.ucd_bidi.specs.BidiClass.{bidi_class as unicode_bidi_class}
use Rattle.unicode.specs.GeneralCategory.{general_category}
use Rattle.idn_class.specs.declared.bidi_class.BidiClass.{BidiClass}
use Rattle.idn_class.specs.declared.bidi_class.BidiClass.TheVariants.{L, R, AL, AN, EN, ES, CS, ET, ON, BN, NSM, Other}
use Rattle.idn_class.specs.declared.properties.Properties.{Properties}
use Rattle.idn_class.specs.declared.properties.Properties.TheVariants.{Profile, Unicode}

-- BN: the joiners
unfoldable pub is_boundary_neutral : ℕ → Bool
unfolding in_ranges
is_boundary_neutral = in_ranges ((0x200C, 0x200D) ∷ [])

-- ES: HYPHEN-MINUS
unfoldable pub is_european_separator : ℕ → Bool
unfolding in_ranges
is_european_separator = in_ranges ((0x2D, 0x2D) ∷ [])

-- EN: the digits of ASCII and the extended Arabic-Indic digits
unfoldable pub is_european_number : ℕ → Bool
unfolding in_ranges
is_european_number = in_ranges ((0x30, 0x39) ∷ (0x6F0, 0x6F9) ∷ [])

-- AN: the Arabic-Indic digits
unfoldable pub is_arabic_number : ℕ → Bool
unfolding in_ranges
is_arabic_number = in_ranges ((0x660, 0x669) ∷ [])

-- the categories of nonspacing and enclosing marks
abbrev pub is_nonspacing_or_enclosing : GeneralCategory → Bool
is_nonspacing_or_enclosing Mn = true
is_nonspacing_or_enclosing Me = true
is_nonspacing_or_enclosing _ = false

-- NSM
unfoldable pub is_nonspacing : ℕ → Bool
is_nonspacing c = is_nonspacing_or_enclosing (general_category c)

-- R: the blocks of Hebrew, NKo, Samaritan and Mandaic
unfoldable pub is_right_to_left : ℕ → Bool
unfolding in_ranges
is_right_to_left = in_ranges ((0x590, 0x5FF) ∷ (0x7C0, 0x85F) ∷ [])

-- AL: the blocks of Arabic, Syriac and Thaana up to U+08FF
unfoldable pub is_arabic_letter : ℕ → Bool
unfolding in_ranges
is_arabic_letter = in_ranges ((0x600, 0x7BF) ∷ (0x860, 0x8FF) ∷ [])

-- the first line that applies decides
unfoldable pub profile_bidi_class : ℕ → BidiClass
profile_bidi_class c =
    if is_boundary_neutral c then BN
    else (if is_european_separator c then ES
    else (if is_european_number c then EN
    else (if is_arabic_number c then AN
    else (if is_nonspacing c then NSM
    else (if is_right_to_left c then R
    else (if is_arabic_letter c then AL
    else L))))))

-- ---- by Unicode

-- the class as the Bidi rule names it: it names no more than these eleven
abbrev pub named_class : UnicodeBidiClass → BidiClass
named_class unicode.LeftToRight = L
named_class unicode.RightToLeft = R
named_class unicode.ArabicLetter = AL
named_class unicode.ArabicNumber = AN
named_class unicode.EuropeanNumber = EN
named_class unicode.EuropeanSeparator = ES
named_class unicode.CommonSeparator = CS
named_class unicode.EuropeanTerminator = ET
named_class unicode.OtherNeutral = ON
named_class unicode.BoundaryNeutral = BN
named_class unicode.NonspacingMark = NSM
named_class _ = Other

unfoldable pub standard_bidi_class : ℕ → BidiClass
standard_bidi_class c = named_class (unicode_bidi_class c)

-- ---- by either

abbrev pub bidi_class : Properties → ℕ → BidiClass
bidi_class Profile = profile_bidi_class
bidi_class Unicode = standard_bidi_class
