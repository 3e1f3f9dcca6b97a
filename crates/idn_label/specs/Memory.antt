-- Labels that are tested, registered, decoded or answered as those of a zone without memory, and names that are looked
-- up so.
use Rattle.std.specs.Prelude.{◌≡◌, ◌≢◌, ℕ, ◌≤◌, ◌⊎◌, Bool, true, false, not, List, length, drop, Some}
use Rattle.std.specs.Char.{is_ascii_uppercase}
use Rattle.std.specs.List.{list_any, list_all}
use Rattle.ucd_normal.specs.declared.forms.Form.TheVariants.{Nfc}
use Rattle.ucd_normal.specs.declared.forms.QuickCheck.TheVariants.{Maybe}
use Rattle.unicode_normalization.specs.QuickCheck.{quick_check_text}
use Rattle.idna.specs.Display.{IsPlain}
use Rattle.idna.specs.declared.options.Hyphens.TheVariants.{Allow}
use Rattle.idna.specs.Punycode.{decode}
use Rattle.idna.specs.Validity.{is_all_ascii, has_ace_prefix}
use Rattle.idn_class.specs.declared.facts.Fact.TheVariants.{MayCompose}
use Rattle.idn_class.specs.Class.{is_left_open}
use Rattle.idn_class.specs.Facts.{has_fact}
use Rattle.idn_label.specs.LdhNames.{IsLdhName}
use Rattle.idn_label.specs.Lookup.{deny_list}
use Rattle.idn_label.specs.Steps.{begins_with_prefix, lowercase}

-- look-ups give the class of each code point, and either none may compose, or there are at most 63 and the quick check
-- of NFC (UAX 15 section 9) is not Maybe
abbrev pub NeedsNoMemory : List ℕ → Type 0
NeedsNoMemory label =
    (list_any is_left_open label ≡ false)
    × ((list_any (has_fact MayCompose) label ≡ false) ⊎ ((length label ≤ 63) × (quick_check_text Nfc label ≢ Maybe)))

-- an A-label in lower case of at most 63 octets, of which the code stands for a label that is not all ASCII and needs
-- none, or for no label
abbrev pub NeedsNoMemoryDecoded : List ℕ → Type 0
NeedsNoMemoryDecoded given =
    (length given ≤ 63)
    × ((label : List ℕ) → decode (drop 4 given) ≡ Some label → (is_all_ascii label ≡ false) × NeedsNoMemory label)

-- a label of a name that is decoded: if it begins with "xn--" in any ASCII case, it is such an A-label in lower case
abbrev pub DecodesWithoutMemory : List ℕ → Type 0
DecodesWithoutMemory label =
    begins_with_prefix label ≡ true → NeedsNoMemoryDecoded (lowercase label)

-- a label that is registered: if it begins with "xn--", it is such an A-label without capitals, and else it needs none
abbrev pub RegistersWithoutMemory : List ℕ → Type 0
RegistersWithoutMemory label =
    (has_ace_prefix label ≡ false → NeedsNoMemory label)
    × (has_ace_prefix label ≡ true → (list_all (λ c. not (is_ascii_uppercase c)) label ≡ true)
    × NeedsNoMemoryDecoded label)

-- a label of a zone: it is registered so, and if it is in ASCII, so is the same in small letters
abbrev pub StandsWithoutMemory : List ℕ → Type 0
StandsWithoutMemory label =
    RegistersWithoutMemory label × (is_all_ascii label ≡ true → RegistersWithoutMemory (lowercase label))

-- a name in UTF-8: lower-case ASCII that UTS 46 allows and that has no A-label, or letters,
-- digits and hyphens in any ASCII case
abbrev pub LooksUpWithoutMemory : Bool → List ℕ → Type 0
LooksUpWithoutMemory std3 name = IsPlain (deny_list std3) Allow name ⊎ IsLdhName name
