-- The properties that the rules for joiners use: by this profile's own lists, which are the definition,
-- or by Unicode's data.
use Rattle.std.specs.Prelude.{ℕ, Bool, true, false, ◌==◌, List, [], ◌∷◌, if◌then◌else◌}
use Rattle.ucd_table.specs.Rows.{Range, in_ranges}
use Rattle.ucd_category.specs.declared.GeneralCategory.{GeneralCategory}
use Rattle.ucd_category.specs.declared.GeneralCategory.TheVariants.{NonspacingMark}
use Rattle.ucd_bidi.specs.declared.JoiningType.{JoiningType as UnicodeJoiningType}
use Rattle.ucd_bidi.specs.declared.JoiningType.TheVariants as unicode
use Rattle.ucd_bidi.specs.JoiningType.{joining_type as unicode_joining_type}
use Rattle.ucd_normal.specs.CanonicalCombiningClass.{canonical_combining_class}
use Rattle.unicode.specs.GeneralCategory.{general_category}
use Rattle.idn_class.specs.declared.joining_type.JoiningType.{JoiningType}
use Rattle.idn_class.specs.declared.joining_type.JoiningType.TheVariants.{Right, Dual, Left, Transparent, NonJoining}
use Rattle.idn_class.specs.declared.properties.Properties.{Properties}
use Rattle.idn_class.specs.declared.properties.Properties.TheVariants.{Profile, Unicode}

-- Canonical_Combining_Class Virama: those of ten Indic scripts
unfoldable pub is_profile_virama : ℕ → Bool
unfolding in_ranges
is_profile_virama =
    in_ranges
    ((0x94D, 0x94D) ∷ (0x9CD, 0x9CD) ∷ (0xA4D, 0xA4D) ∷ (0xACD, 0xACD) ∷ (0xB4D, 0xB4D) ∷ (0xBCD, 0xBCD)
    ∷ (0xC4D, 0xC4D)
    ∷ (0xCCD, 0xCCD) ∷ (0xD4D, 0xD4D) ∷ (0xDCA, 0xDCA) ∷ [])

-- Joining_Type R, of the Arabic block
abbrev pub right_joining : List Range
right_joining =
    (0x622, 0x625) ∷ (0x627, 0x627) ∷ (0x629, 0x629) ∷ (0x62F, 0x632) ∷ (0x648, 0x648) ∷ (0x671, 0x673) ∷ (0x688, 0x699)
    ∷ (0x6C0, 0x6C0) ∷ (0x6C3, 0x6CB) ∷ (0x6CD, 0x6CD) ∷ (0x6CF, 0x6CF) ∷ (0x6D2, 0x6D3) ∷ (0x6D5, 0x6D5)
    ∷ (0x6EE, 0x6EF)
    ∷ []

unfoldable pub is_right_joining : ℕ → Bool
unfolding in_ranges
is_right_joining = in_ranges right_joining

-- Joining_Type D, of the Arabic block
abbrev pub dual_joining : List Range
dual_joining =
    (0x620, 0x620) ∷ (0x626, 0x626) ∷ (0x628, 0x628) ∷ (0x62A, 0x62E) ∷ (0x633, 0x63F) ∷ (0x641, 0x647) ∷ (0x649, 0x64A)
    ∷ (0x66E, 0x66F) ∷ (0x679, 0x687) ∷ (0x69A, 0x6BF) ∷ (0x6C1, 0x6C2) ∷ (0x6CC, 0x6CC) ∷ (0x6CE, 0x6CE)
    ∷ (0x6D0, 0x6D1)
    ∷ (0x6FA, 0x6FC) ∷ (0x6FF, 0x6FF) ∷ []

unfoldable pub is_dual_joining : ℕ → Bool
unfolding in_ranges
is_dual_joining = in_ranges dual_joining

abbrev pub is_nonspacing_mark : GeneralCategory → Bool
is_nonspacing_mark NonspacingMark = true
is_nonspacing_mark _ = false

-- Joining_Type T
unfoldable pub is_transparent : ℕ → Bool
is_transparent c = is_nonspacing_mark (general_category c)

-- Joining_Type; no code point of this profile has type L
unfoldable pub profile_joining_type : ℕ → JoiningType
profile_joining_type c =
    if is_right_joining c then Right
    else (if is_dual_joining c then Dual
    else (if is_transparent c then Transparent
    else NonJoining))

-- ---- by Unicode

-- Canonical_Combining_Class Virama
unfoldable pub is_standard_virama : ℕ → Bool
is_standard_virama c = canonical_combining_class c == 9

-- the type as the rules for joiners name it: one that causes joining neither joins nor is passed over
abbrev pub named_type : UnicodeJoiningType → JoiningType
named_type unicode.RightJoining = Right
named_type unicode.LeftJoining = Left
named_type unicode.DualJoining = Dual
named_type unicode.Transparent = Transparent
named_type unicode.JoinCausing = NonJoining
named_type unicode.NonJoining = NonJoining

unfoldable pub standard_joining_type : ℕ → JoiningType
standard_joining_type c = named_type (unicode_joining_type c)

-- ---- by either

abbrev pub is_virama : Properties → ℕ → Bool
is_virama Profile = is_profile_virama
is_virama Unicode = is_standard_virama

abbrev pub joining_type : Properties → ℕ → JoiningType
joining_type Profile = profile_joining_type
joining_type Unicode = standard_joining_type

-- ---- what joins

-- Joining_Type L or D
abbrev pub joins_next : JoiningType → Bool
joins_next Left = true
joins_next Dual = true
joins_next _ = false

-- Joining_Type R or D
abbrev pub joins_previous : JoiningType → Bool
joins_previous Right = true
joins_previous Dual = true
joins_previous _ = false
