-- The class of a code point (RFC 5892, sections 2 and 3). A letter in parentheses is that of section 2.
use Rattle.std.specs.Prelude.{ℕ, Bool, true, false, ◌&&◌, ◌||◌, not, [], ◌∷◌, length, nat_lt, bytes_eq, if◌then◌else◌}
use Rattle.ucd_table.specs.Rows.{in_ranges}
use Rattle.ucd_category.specs.declared.GeneralCategory.{GeneralCategory}
use Rattle.ucd_category.specs.declared.GeneralCategory.TheVariants.{UppercaseLetter as Lu, LowercaseLetter as Ll}
use Rattle.ucd_category.specs.declared.GeneralCategory.TheVariants.{ModifierLetter as Lm, OtherLetter as Lo}
use Rattle.ucd_category.specs.declared.GeneralCategory.TheVariants.{NonspacingMark as Mn, SpacingMark as Mc}
use Rattle.ucd_category.specs.declared.GeneralCategory.TheVariants.{DecimalNumber as Nd, Unassigned as Cn}
use Rattle.unicode.specs.Binary.{is_default_ignorable_code_point, is_white_space, is_noncharacter_code_point}
use Rattle.unicode.specs.CaseFolding.{full_folding}
use Rattle.unicode.specs.GeneralCategory.{general_category, general_category_eq}
use Rattle.ucd_normal.specs.declared.forms.Form.TheVariants.{Nfkd, Nfkc}
use Rattle.ucd_normal.specs.declared.forms.QuickCheck.{QuickCheck}
use Rattle.ucd_normal.specs.declared.forms.QuickCheck.TheVariants.{Yes, No, Maybe}
use Rattle.ucd_normal.specs.QuickCheck.{quick_check}
use Rattle.unicode_normalization.specs.Forms.{nfkc}
use Rattle.caseless.specs.Caseless.{default_case_fold}
use Rattle.idn_class.specs.declared.class.Class.{Class}
use Rattle.idn_class.specs.declared.class.Class.TheVariants.{Pvalid, Contextj, Contexto, Disallowed, Unassigned}
use Rattle.idn_class.specs.declared.properties.Properties.{Properties}
use Rattle.idn_class.specs.declared.properties.Properties.TheVariants.{Profile, Unicode}

-- a Unicode scalar value: a code point that is no surrogate
unfoldable pub is_scalar : ℕ → Bool
is_scalar = in_ranges ((0, 0xD7FF) ∷ (0xE000, 0x10_FFFF) ∷ [])

-- the profile: blocks of right-to-left scripts and presentation forms that it does not cover
unfoldable pub is_outside_profile : ℕ → Bool
is_outside_profile = in_ranges ((0xFB1D, 0xFDFF) ∷ (0xFE70, 0xFEFF) ∷ (0x1_0800, 0x1_0FFF) ∷ (0x1_E800, 0x1_EFFF) ∷ [])

-- what these properties leave out: the standard nothing
abbrev pub is_left_out : Properties → ℕ → Bool
is_left_out Profile = is_outside_profile
is_left_out Unicode = λ _. false

-- Exceptions (F, 2.6) that are PVALID
unfoldable pub is_pvalid_exception : ℕ → Bool
is_pvalid_exception =
    in_ranges ((0xDF, 0xDF) ∷ (0x3C2, 0x3C2) ∷ (0x6FD, 0x6FE) ∷ (0xF0B, 0xF0B) ∷ (0x3007, 0x3007) ∷ [])

-- Exceptions (F, 2.6) that are CONTEXTO
unfoldable pub is_contexto_exception : ℕ → Bool
is_contexto_exception =
    in_ranges ((0xB7, 0xB7) ∷ (0x375, 0x375) ∷ (0x5F3, 0x5F4) ∷ (0x660, 0x669) ∷ (0x6F0, 0x6F9) ∷ (0x30FB, 0x30FB) ∷ [])

-- Exceptions (F, 2.6) that are DISALLOWED
unfoldable pub is_disallowed_exception : ℕ → Bool
is_disallowed_exception =
    in_ranges ((0x640, 0x640) ∷ (0x7FA, 0x7FA) ∷ (0x302E, 0x302F) ∷ (0x3031, 0x3035) ∷ (0x303B, 0x303B) ∷ [])

-- Unassigned (J, 2.10)
unfoldable pub is_unassigned : ℕ → Bool
is_unassigned c = general_category_eq (general_category c) Cn && not (is_noncharacter_code_point c)

-- LDH (E, 2.5)
unfoldable pub is_ldh : ℕ → Bool
is_ldh = in_ranges ((0x2D, 0x2D) ∷ (0x30, 0x39) ∷ (0x61, 0x7A) ∷ [])

-- JoinControl (H, 2.8)
unfoldable pub is_join_control : ℕ → Bool
is_join_control = in_ranges ((0x200C, 0x200D) ∷ [])

-- Unstable (B, 2.2): cp differs from NFKC(casefold(NFKC(cp)))
unfoldable pub is_unstable : ℕ → Bool
is_unstable c = not (bytes_eq (nfkc (default_case_fold (nfkc (c ∷ [])))) (c ∷ []))

-- IgnorableProperties (C, 2.3)
unfoldable pub has_ignorable_property : ℕ → Bool
has_ignorable_property c = is_default_ignorable_code_point c || is_white_space c || is_noncharacter_code_point c

-- IgnorableBlocks (D, 2.4): Combining Diacritical Marks for Symbols, Musical Symbols, Ancient Greek Musical Notation
unfoldable pub is_in_ignorable_block : ℕ → Bool
is_in_ignorable_block = in_ranges ((0x20D0, 0x20FF) ∷ (0x1_D100, 0x1_D1FF) ∷ (0x1_D200, 0x1_D24F) ∷ [])

-- OldHangulJamo (I, 2.9)
unfoldable pub is_old_hangul_jamo : ℕ → Bool
is_old_hangul_jamo = in_ranges ((0x1100, 0x11FF) ∷ (0xA960, 0xA97F) ∷ (0xD7B0, 0xD7FF) ∷ [])

-- the categories of LetterDigits (A, 2.1)
unfoldable pub is_letter_or_digit : GeneralCategory → Bool
is_letter_or_digit Ll = true
is_letter_or_digit Lu = true
is_letter_or_digit Lo = true
is_letter_or_digit Nd = true
is_letter_or_digit Lm = true
is_letter_or_digit Mn = true
is_letter_or_digit Mc = true
is_letter_or_digit _ = false

-- section 3 from Unstable on
unfoldable pub class_by_properties : ℕ → Class
class_by_properties c =
    if is_unstable c then Disallowed
    else (if has_ignorable_property c then Disallowed
    else (if is_in_ignorable_block c then Disallowed
    else (if is_old_hangul_jamo c then Disallowed
    else (if is_letter_or_digit (general_category c) then Pvalid
    else Disallowed))))

-- section 3, after no scalar value and what the properties leave out: the first line that applies decides.
-- BackwardCompatible (G, 2.7) is empty.
unfoldable pub class_of : Properties → ℕ → Class
class_of properties c =
    if not (is_scalar c) then Disallowed
    else (if is_left_out properties c then Disallowed
    else (if is_pvalid_exception c then Pvalid
    else (if is_contexto_exception c then Contexto
    else (if is_disallowed_exception c then Disallowed
    else (if is_unassigned c then Unassigned
    else (if is_ldh c then Pvalid
    else (if is_join_control c then Contextj
    else class_by_properties c)))))))

-- ---- where memory is needed

-- by the quick checks of NFKC and NFKD, NFKC may change the code point; or NFKC keeps it, and it folds to several
abbrev pub is_undecided : QuickCheck → QuickCheck → Bool → Bool
is_undecided No nfkd folds_to_several = false
is_undecided Yes nfkd folds_to_several = folds_to_several
is_undecided Maybe Yes folds_to_several = folds_to_several
is_undecided Maybe No folds_to_several = true
is_undecided Maybe Maybe folds_to_several = true

-- no look-up says whether the code point is stable
unfoldable pub is_stability_open : ℕ → Bool
is_stability_open c = is_undecided (quick_check Nfkc c) (quick_check Nfkd c) (nat_lt 1 (length (full_folding c)))

-- a letter, mark or digit (A), no exception (F) that is PVALID, and no look-up says whether it is stable (B)
unfoldable pub is_left_open : ℕ → Bool
is_left_open c = not (is_pvalid_exception c) && is_letter_or_digit (general_category c) && is_stability_open c
