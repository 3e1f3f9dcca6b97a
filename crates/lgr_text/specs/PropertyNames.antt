-- The names of properties and of their values in Unicode's PropertyAliases.txt and PropertyValueAliases.txt, in small
-- letters and without '_'; of Bidi classes the short ones alone. Those of categories and scripts are the kit's.
use Rattle.std.specs.Prelude.{ℕ, Bool, true, false, List, Option, Some, None, bytes_eq, codes, ◌||◌, if◌then◌else◌}
use Rattle.ucd_bidi.specs.declared.BidiClass.{BidiClass}
use Rattle.ucd_bidi.specs.declared.BidiClass.TheVariants as bidi
use Rattle.ucd_bidi.specs.declared.JoiningType.{JoiningType}
use Rattle.ucd_bidi.specs.declared.JoiningType.TheVariants as joining
use Rattle.lgr_text.specs.declared.property_names.Property.{Property}
use Rattle.lgr_text.specs.declared.property_names.Property.TheVariants as properties

-- the short or the long name of the same thing
abbrev pub is_either : List ℕ → List ℕ → List ℕ → Bool
is_either short long name = bytes_eq name short || bytes_eq name long

-- those that each reader of rulesets has to know (RFC 7940, section 6.2.3), but Indic_Syllabic_Category
abbrev pub property_named : List ℕ → Option Property
property_named name =
    if is_either (codes "gc") (codes "generalcategory") name then Some properties.GeneralCategory else
    if is_either (codes "sc") (codes "script") name then Some properties.Script else
    if is_either (codes "ccc") (codes "canonicalcombiningclass") name then Some properties.CombiningClass else
    if is_either (codes "bc") (codes "bidiclass") name then Some properties.BidiClass else
    if is_either (codes "jt") (codes "joiningtype") name then Some properties.JoiningType else
    if is_either (codes "dep") (codes "deprecated") name then Some properties.Deprecated else None

-- the classes that the characters of labels may have; those of explicit formatting aren't named
abbrev pub bidi_named : List ℕ → Option BidiClass
bidi_named name =
    if bytes_eq name (codes "l") then Some bidi.LeftToRight else
    if bytes_eq name (codes "r") then Some bidi.RightToLeft else
    if bytes_eq name (codes "al") then Some bidi.ArabicLetter else
    if bytes_eq name (codes "en") then Some bidi.EuropeanNumber else
    if bytes_eq name (codes "es") then Some bidi.EuropeanSeparator else
    if bytes_eq name (codes "et") then Some bidi.EuropeanTerminator else
    if bytes_eq name (codes "an") then Some bidi.ArabicNumber else
    if bytes_eq name (codes "cs") then Some bidi.CommonSeparator else
    if bytes_eq name (codes "nsm") then Some bidi.NonspacingMark else
    if bytes_eq name (codes "bn") then Some bidi.BoundaryNeutral else
    if bytes_eq name (codes "b") then Some bidi.ParagraphSeparator else
    if bytes_eq name (codes "s") then Some bidi.SegmentSeparator else
    if bytes_eq name (codes "ws") then Some bidi.WhiteSpace else
    if bytes_eq name (codes "on") then Some bidi.OtherNeutral else None

abbrev pub joining_named : List ℕ → Option JoiningType
joining_named name =
    if is_either (codes "c") (codes "joincausing") name then Some joining.JoinCausing else
    if is_either (codes "d") (codes "dualjoining") name then Some joining.DualJoining else
    if is_either (codes "l") (codes "leftjoining") name then Some joining.LeftJoining else
    if is_either (codes "r") (codes "rightjoining") name then Some joining.RightJoining else
    if is_either (codes "t") (codes "transparent") name then Some joining.Transparent else
    if is_either (codes "u") (codes "nonjoining") name then Some joining.NonJoining else None

-- the values of a property that a code point has or hasn't
abbrev pub truth_named : List ℕ → Option Bool
truth_named name =
    if is_either (codes "y") (codes "yes") name || is_either (codes "t") (codes "true") name then Some true else
    if is_either (codes "n") (codes "no") name || is_either (codes "f") (codes "false") name then Some false else None
