-- What docs/PROFILE.md says of this profile's lists: which code points have each Bidi class and joining type, and which
-- are viramas.
use Rattle.std.specs.Prelude.{◌≡◌, ◌≢◌, ◌≤◌, ◌⊎◌, ◌↔◌, ℕ, Bool, IsTrue, List, [], ◌∷◌, map, Any}
use Rattle.ucd_table.specs.Rows.{in_ranges}
use Rattle.ucd_category.specs.declared.GeneralCategory.TheVariants.{NonspacingMark, EnclosingMark}
use Rattle.unicode.specs.GeneralCategory.{general_category}
use Rattle.idn_class.specs.declared.bidi_class.BidiClass.TheVariants.{R, AL, AN, EN, ES, ET, CS, ON, BN, NSM}
use Rattle.idn_class.specs.declared.joining_type.JoiningType.TheVariants.{Right, Dual, Left, Transparent}
use Rattle.idn_class.specs.BidiClass.{profile_bidi_class}
use Rattle.idn_class.specs.BidiRule.{IsRtl}
use Rattle.idn_class.specs.JoiningType.{is_profile_virama, profile_joining_type}

-- the code point is in one of these ranges, of which each has both its ends
abbrev pub IsIn : List (ℕ × ℕ) → ℕ → Type 0
IsIn [] c = ⊥
IsIn (range ∷ ranges) c = ((range.0 ≤ c) × (c ≤ range.1)) ⊎ IsIn ranges c

-- ---- the Bidi class

-- Hebrew; N'Ko, Samaritan and Mandaic
abbrev pub right_to_left_blocks : List (ℕ × ℕ)
right_to_left_blocks = (0x590, 0x5FF) ∷ (0x7C0, 0x85F) ∷ []

-- Arabic, Syriac, Arabic Supplement and Thaana; the further supplements of Syriac and Arabic
abbrev pub arabic_blocks : List (ℕ × ℕ)
arabic_blocks = (0x600, 0x7BF) ∷ (0x860, 0x8FF) ∷ []

-- the Arabic-Indic digits
abbrev pub arabic_digits : List (ℕ × ℕ)
arabic_digits = (0x660, 0x669) ∷ []

-- the digits of ASCII, and the extended Arabic-Indic digits
abbrev pub european_digits : List (ℕ × ℕ)
european_digits = (0x30, 0x39) ∷ (0x6F0, 0x6F9) ∷ []

-- the nonspacing marks that are L in Unicode. The profile has them as NSM, and so lets them into RTL labels,
-- where RFC 5893 bars them
abbrev pub left_to_right_marks : List ℕ
left_to_right_marks = 0xCBF ∷ 0xCC6 ∷ 0x1B3A ∷ 0x1B3C ∷ 0x1B42 ∷ 0x1_1A07 ∷ 0x1_1A08 ∷ 0x1_1C3F ∷ []

unfoldable pub is_left_to_right_mark : ℕ → Bool
unfolding in_ranges
is_left_to_right_mark = in_ranges (map (λ mark. (mark, mark)) left_to_right_marks)

-- an RTL label with one of them
abbrev pub HasMarkInRtl : List ℕ → Type 0
HasMarkInRtl label = IsRtl (map profile_bidi_class label) × Any (λ c. IsTrue (is_left_to_right_mark c)) label

-- a nonspacing or an enclosing mark
abbrev pub IsNonspacing : ℕ → Type 0
IsNonspacing c = (general_category c ≡ NonspacingMark) ⊎ (general_category c ≡ EnclosingMark)

-- each class, and the code points that have it
pub record BidiClassesOfTheProfile : Type 0 where
  pub right_to_left : (c : ℕ) → (profile_bidi_class c ≡ R) ↔ (IsIn right_to_left_blocks c × ¬ IsNonspacing c)
  pub arabic_letter : (c : ℕ) → (profile_bidi_class c ≡ AL)
      ↔ (IsIn arabic_blocks c × (¬ IsNonspacing c) × (¬ IsIn arabic_digits c) × (¬ IsIn european_digits c))
  pub arabic_number : (c : ℕ) → (profile_bidi_class c ≡ AN) ↔ IsIn arabic_digits c
  pub european_number : (c : ℕ) → (profile_bidi_class c ≡ EN) ↔ IsIn european_digits c
  pub european_separator : (c : ℕ) → (profile_bidi_class c ≡ ES) ↔ (c ≡ 0x2D)
  pub boundary_neutral : (c : ℕ) → (profile_bidi_class c ≡ BN) ↔ IsIn ((0x200C, 0x200D) ∷ []) c
  pub nonspacing : (c : ℕ) → (profile_bidi_class c ≡ NSM) ↔ IsNonspacing c
  pub no_other : (c : ℕ) → (profile_bidi_class c ≢ ET) × (profile_bidi_class c ≢ CS) × (profile_bidi_class c ≢ ON)

-- ---- the joining type, and the viramas

-- R and D are types of letters of the Arabic block; T is that of the nonspacing marks outside of these;
-- no code point has L
pub record JoiningTypesOfTheProfile : Type 0 where
  pub right : (c : ℕ) → profile_joining_type c ≡ Right → IsIn ((0x600, 0x6FF) ∷ []) c
  pub dual : (c : ℕ) → profile_joining_type c ≡ Dual → IsIn ((0x600, 0x6FF) ∷ []) c
  pub transparent : (c : ℕ) → (profile_joining_type c ≡ Transparent) ↔ (general_category c ≡ NonspacingMark)
  pub left : (c : ℕ) → profile_joining_type c ≢ Left

-- the code point is one of these
abbrev pub IsOneOf : List ℕ → ℕ → Type 0
IsOneOf [] c = ⊥
IsOneOf (point ∷ points) c = (c ≡ point) ⊎ IsOneOf points c

-- the ten code points after which a joiner may stand
abbrev pub ViramasOfTheProfile : Type 0
ViramasOfTheProfile =
    (c : ℕ) → IsTrue (is_profile_virama c)
    ↔ IsOneOf (0x94D ∷ 0x9CD ∷ 0xA4D ∷ 0xACD ∷ 0xB4D ∷ 0xBCD ∷ 0xC4D ∷ 0xCCD ∷ 0xD4D ∷ 0xDCA ∷ []) c
