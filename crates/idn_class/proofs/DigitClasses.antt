-- The digits that RFC 5892, appendix A.8 and A.9, names are AN and EN, by the profile and by Unicode.
use Rattle.std.proofs.Common.{◌≡◌, ℕ, Bool, true, false, not, ◌||◌, [], ◌∷◌, refl, arith}
use Rattle.std.proofs.lemmas.Bool.Decides.{nat_tests}
use Rattle.ucd_table.specs.Rows.{in_ranges}
use Rattle.ucd_table.proofs.Computing.{tables}
use Rattle.ucd_table.proofs.RangedFacts.{points_ok}
use Rattle.ucd_table.proofs.Stepped.{of_ranges, zip_stepped}
use Rattle.ucd_bidi.specs.declared.BidiClass.{BidiClass as UnicodeBidiClass}
use Rattle.ucd_bidi.specs.BidiClass.{bidi_class as unicode_bidi_class}
use Rattle.ucd_bidi.proofs.BidiClassLemmas.{bidi_class_stepped as unicode_bidi_class_stepped}
use Rattle.idn_class.specs.declared.bidi_class.BidiClass.{BidiClass}
use Rattle.idn_class.specs.declared.bidi_class.BidiClass.TheVariants.{AN, EN}
use Rattle.idn_class.specs.declared.properties.Properties.{Properties}
use Rattle.idn_class.specs.declared.properties.Properties.TheVariants.{Profile, Unicode}
use Rattle.idn_class.specs.BidiClass.{profile_bidi_class, bidi_class, standard_bidi_class, named_class, is_boundary_neutral, is_european_separator, is_european_number, is_arabic_number}
use Rattle.idn_class.specs.ContextO.{is_arabic_digit, is_extended_arabic_digit}
use Rattle.idn_class.specs.Tests.{is_an, is_en}
use Rattle.idn_class.proofs.BidiLemmas.{is_an-true, is_en-true}
use Rattle.idn_class.proofs.CategoryLemmas.{none_fails}

-- ---- by the profile

listed_arabic : (c : ℕ) → is_arabic_digit c ≡ true → profile_bidi_class c ≡ AN
unfolding profile_bidi_class is_boundary_neutral is_european_separator is_european_number is_arabic_number
listed_arabic c h = grind (arith, nat_tests)

listed_extended : (c : ℕ) → is_extended_arabic_digit c ≡ true → profile_bidi_class c ≡ EN
unfolding profile_bidi_class is_boundary_neutral is_european_separator is_european_number
listed_extended c h = grind (arith, nat_tests)

-- ---- by Unicode

abbrev within : (BidiClass → Bool) → UnicodeBidiClass → Bool → Bool
within test class inside = not inside || test (named_class class)

arabic_within : (c : ℕ) → within is_an (unicode_bidi_class c) (in_ranges ((0x660, 0x669) ∷ []) c) ≡ true
unfolding tables points_ok unicode_bidi_class_stepped
arabic_within = none_fails _ (zip_stepped (within is_an) unicode_bidi_class (in_ranges ((0x660, 0x669) ∷ [])) unicode_bidi_class_stepped (of_ranges ((0x660, 0x669) ∷ []) refl)) refl

extended_within : (c : ℕ) → within is_en (unicode_bidi_class c) (in_ranges ((0x6F0, 0x6F9) ∷ []) c) ≡ true
unfolding tables points_ok unicode_bidi_class_stepped
extended_within = none_fails _ (zip_stepped (within is_en) unicode_bidi_class (in_ranges ((0x6F0, 0x6F9) ∷ [])) unicode_bidi_class_stepped (of_ranges ((0x6F0, 0x6F9) ∷ []) refl)) refl

inside : (inside test : Bool) → (not inside || test) ≡ true → inside ≡ true → test ≡ true
inside true test h is = h
inside false test h is = cc

arabic_range : (c : ℕ) → is_arabic_digit c ≡ true → in_ranges ((0x660, 0x669) ∷ []) c ≡ true
unfolding in_ranges
arabic_range c h = grind (arith, nat_tests)

extended_range : (c : ℕ) → is_extended_arabic_digit c ≡ true → in_ranges ((0x6F0, 0x6F9) ∷ []) c ≡ true
unfolding in_ranges
extended_range c h = grind (arith, nat_tests)

standard_arabic : (c : ℕ) → is_arabic_digit c ≡ true → standard_bidi_class c ≡ AN
unfolding standard_bidi_class
standard_arabic c h = is_an-true (named_class (unicode_bidi_class c)) (inside _ _ (arabic_within c) (arabic_range c h))

standard_extended : (c : ℕ) → is_extended_arabic_digit c ≡ true → standard_bidi_class c ≡ EN
unfolding standard_bidi_class
standard_extended c h = is_en-true (named_class (unicode_bidi_class c)) (inside _ _ (extended_within c) (extended_range c h))

-- ---- by either

pub class_of_arabic_digit : (properties : Properties) (c : ℕ) → is_arabic_digit c ≡ true → bidi_class properties c ≡ AN
class_of_arabic_digit Profile c h = listed_arabic c h
class_of_arabic_digit Unicode c h = standard_arabic c h

pub class_of_extended_digit : (properties : Properties) (c : ℕ) → is_extended_arabic_digit c ≡ true → bidi_class properties c ≡ EN
class_of_extended_digit Profile c h = listed_extended c h
class_of_extended_digit Unicode c h = standard_extended c h
