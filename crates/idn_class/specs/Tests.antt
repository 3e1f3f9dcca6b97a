-- The rules again, as tests that compute, so that a proof can try them on a label.
-- The laws in `laws.rt` say that each is its rule.
use Rattle.std.specs.Prelude.{ℕ, zero, suc, ◌+◌, Bool, true, false, ◌&&◌, ◌||◌, ◌==◌, not, List, [], ◌∷◌, length, map}
use Rattle.std.specs.Prelude.{drop, Option, Some, None, slice_index}
use Rattle.std.specs.List.{list_any, list_all}
use Rattle.ucd_script.specs.declared.Script.{Script}
use Rattle.ucd_script.specs.declared.Script.TheVariants.{Greek, Hebrew}
use Rattle.unicode.specs.Script.{script}
use Rattle.idn_class.specs.declared.bidi_class.BidiClass.{BidiClass}
use Rattle.idn_class.specs.declared.bidi_class.BidiClass.TheVariants.{L, R, AL, AN, EN, NSM}
use Rattle.idn_class.specs.declared.joining_type.JoiningType.{JoiningType}
use Rattle.idn_class.specs.declared.joining_type.JoiningType.TheVariants.{Transparent}
use Rattle.idn_class.specs.declared.properties.Properties.{Properties}
use Rattle.idn_class.specs.BidiClass.{bidi_class}
use Rattle.idn_class.specs.BidiRule.{is_rtl_class, is_allowed_in_rtl, is_end_of_rtl, is_allowed_in_ltr, is_end_of_ltr}
use Rattle.idn_class.specs.ContextJ.{type_at}
use Rattle.idn_class.specs.ContextO.{is_arabic_digit, is_extended_arabic_digit, is_japanese}
use Rattle.idn_class.specs.JoiningType.{is_virama, joining_type, joins_next, joins_previous}
use Rattle.idn_class.specs.LeadingMark.{is_mark}
use Rattle.idn_class.specs.Neighbors.{before, after}

abbrev pub leading_mark : List ℕ → Bool
leading_mark [] = false
leading_mark (c ∷ label) = is_mark c

-- each of the first places passes
abbrev pub all_places : ℕ → (ℕ → Bool) → Bool
all_places zero passes = true
all_places (suc place) passes = passes place && all_places place passes

abbrev pub is_some_and : Option ℕ → (ℕ → Bool) → Bool
is_some_and None passes = false
is_some_and (Some c) passes = passes c

-- ---- joiners

-- past type T, the first other type decides
abbrev pub first_other : (JoiningType → Bool) → JoiningType → Bool → Bool
first_other joins Transparent farther = farther
first_other joins type farther = joins type

abbrev pub joins_before : Properties → List ℕ → ℕ → Bool
joins_before properties label zero = false
joins_before properties label (suc place) =
    first_other joins_next (type_at properties label place) (joins_before properties label place)

abbrev pub joins_after : Properties → List ℕ → Bool
joins_after properties [] = false
joins_after properties (c ∷ label) =
    first_other joins_previous (joining_type properties c) (joins_after properties label)

abbrev pub follows_virama : Properties → List ℕ → ℕ → Bool
follows_virama properties label place = is_some_and (before label place) (is_virama properties)

abbrev pub non_joiner_passes : Properties → Bool → List ℕ → ℕ → Bool
non_joiner_passes properties true label place =
    follows_virama properties label place || joins_before properties label place
    && joins_after properties (drop (place + 1) label)
non_joiner_passes properties false label place = true

abbrev pub joiner_passes : Properties → Bool → List ℕ → ℕ → Bool
joiner_passes properties true label place = follows_virama properties label place
joiner_passes properties false label place = true

-- the joiner at a place, if one stands there, meets its rule
abbrev pub joiner_at : Properties → List ℕ → ℕ → Bool
joiner_at properties label place =
    let c = slice_index label place in
    non_joiner_passes properties (c == 0x200C) label place && joiner_passes properties (c == 0x200D) label place

unfoldable pub contextj_ok : Properties → List ℕ → Bool
contextj_ok properties label = all_places (length label) (joiner_at properties label)

-- ---- other code points that need a context

abbrev pub is_greek : Script → Bool
is_greek Greek = true
is_greek _ = false

abbrev pub is_hebrew : Script → Bool
is_hebrew Hebrew = true
is_hebrew _ = false

abbrev pub middle_dot_passes : Bool → List ℕ → ℕ → Bool
middle_dot_passes true label place =
    is_some_and (before label place) (λ c. c == 0x6C) && is_some_and (after label place) (λ c. c == 0x6C)
middle_dot_passes false label place = true

abbrev pub keraia_passes : Bool → List ℕ → ℕ → Bool
keraia_passes true label place = is_some_and (after label place) (λ c. is_greek (script c))
keraia_passes false label place = true

abbrev pub geresh_passes : Bool → List ℕ → ℕ → Bool
geresh_passes true label place = is_some_and (before label place) (λ c. is_hebrew (script c))
geresh_passes false label place = true

abbrev pub katakana_middle_dot_passes : Bool → List ℕ → Bool
katakana_middle_dot_passes true label = list_any is_japanese label
katakana_middle_dot_passes false label = true

-- a digit does not meet one of the other kind
abbrev pub digit_passes : (ℕ → Bool) → Bool → List ℕ → Bool
digit_passes is_other true label = not (list_any is_other label)
digit_passes is_other false label = true

-- the code point at a place meets its rule, if it has one
abbrev pub other_at : List ℕ → ℕ → Bool
other_at label place =
    let c = slice_index label place in
    middle_dot_passes (c == 0xB7) label place && keraia_passes (c == 0x375) label place
    && geresh_passes (c == 0x5F3) label place
    && geresh_passes (c == 0x5F4) label place && katakana_middle_dot_passes (c == 0x30FB) label
    && digit_passes is_extended_arabic_digit (is_arabic_digit c) label
    && digit_passes is_arabic_digit (is_extended_arabic_digit c) label

unfoldable pub contexto_ok : List ℕ → Bool
contexto_ok label = all_places (length label) (other_at label)

-- ---- the Bidi rule

abbrev pub is_en : BidiClass → Bool
is_en EN = true
is_en _ = false

abbrev pub is_an : BidiClass → Bool
is_an AN = true
is_an _ = false

-- both European and Arabic numbers
abbrev pub has_both_numbers : List BidiClass → Bool
has_both_numbers classes = list_any is_en classes && list_any is_an classes

abbrev pub is_nsm : BidiClass → Bool
is_nsm NSM = true
is_nsm _ = false

abbrev pub is_rtl : List BidiClass → Bool
is_rtl (R ∷ classes) = true
is_rtl (AL ∷ classes) = true
is_rtl _ = false

abbrev pub is_ltr : List BidiClass → Bool
is_ltr (L ∷ classes) = true
is_ltr _ = false

abbrev pub ends_in : (BidiClass → Bool) → List BidiClass → Bool
ends_in is_end [] = false
ends_in is_end (class ∷ classes) = ends_in is_end classes || is_end class && list_all is_nsm classes

abbrev pub rtl_passes : Bool → List BidiClass → Bool
rtl_passes true classes =
    list_all is_allowed_in_rtl classes && ends_in is_end_of_rtl classes && not (has_both_numbers classes)
rtl_passes false classes = true

abbrev pub ltr_passes : Bool → List BidiClass → Bool
ltr_passes true classes = list_all is_allowed_in_ltr classes && ends_in is_end_of_ltr classes
ltr_passes false classes = true

abbrev pub meets_six_conditions : List BidiClass → Bool
meets_six_conditions classes =
    (is_ltr classes || is_rtl classes) && rtl_passes (is_rtl classes) classes && ltr_passes (is_ltr classes) classes

abbrev pub bidi_rule : Bool → List BidiClass → Bool
bidi_rule true classes = meets_six_conditions classes
bidi_rule false classes = true

unfoldable pub bidi_ok : Properties → List ℕ → Bool
bidi_ok properties label =
    let classes = map (bidi_class properties) label in bidi_rule (list_any is_rtl_class classes) classes
