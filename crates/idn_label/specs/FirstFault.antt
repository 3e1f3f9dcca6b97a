-- The tests of a label that is to be registered (RFC 5891 section 4.2),
-- in the order in which their faults are reported.
use Rattle.std.specs.Prelude.{◌≡◌, ℕ, Bool, not, ◌||◌, ◌==◌, nat_lt, List, [], ◌∷◌, length, map, chars, Option, Some}
use Rattle.std.specs.Prelude.{None, if◌then◌else◌}
use Rattle.std.specs.Str.{is_utf8}
use Rattle.unicode_normalization.specs.Forms.{is_nfc}
use Rattle.idna.specs.Validity.{has_hyphen_first_or_last, has_hyphens_third_and_fourth}
use Rattle.idn_text.specs.declared.refusal.Refusal.{Refusal}
use Rattle.idn_text.specs.declared.refusal.Refusal.TheVariants.{NotUtf8, Empty, NotNfc, Hyphen, LeadingMark, ContextJ}
use Rattle.idn_text.specs.declared.refusal.Refusal.TheVariants.{ContextO, Bidi, LabelTooLong}
use Rattle.idn_text.specs.declared.refusal.Refusal.TheVariants as refusals
use Rattle.idn_class.specs.declared.class.Class.{Class}
use Rattle.idn_class.specs.declared.class.Class.TheVariants as classes
use Rattle.idn_class.specs.Class.{class_of}
use Rattle.idn_class.specs.Tests.{leading_mark, contextj_ok, contexto_ok, bidi_ok}
use Rattle.idn_label.specs.ALabel.{a_label_of}
use Rattle.idn_class.specs.declared.properties.Properties.{Properties}

-- a code point that is DISALLOWED or UNASSIGNED may not be registered (RFC 5891 section 4.2.2)
abbrev pub fault_of_class : Class → Option Refusal
fault_of_class classes.Disallowed = Some refusals.Disallowed
fault_of_class classes.Unassigned = Some refusals.Unassigned
fault_of_class classes.Pvalid = None
fault_of_class classes.Contextj = None
fault_of_class classes.Contexto = None

-- the first fault in a list of those that there may be
abbrev pub first_of : List (Option Refusal) → Option Refusal
first_of [] = None
first_of (None ∷ others) = first_of others
first_of (Some refusal ∷ others) = Some refusal

-- the first code point that may not be registered decides
unfoldable pub code_point_fault : Properties → List ℕ → Option Refusal
code_point_fault properties label = first_of (map fault_of_class (map (class_of properties) label))

-- U+002D first, last, or in both the third and the fourth places (RFC 5891 section 4.2.3.1)
abbrev pub has_hyphen_out_of_place : List ℕ → Bool
has_hyphen_out_of_place label = has_hyphen_first_or_last label || has_hyphens_third_and_fourth label

-- more than 63 code points (a limit of this program), or an A-label of more than 63 octets (RFC 5891 section 4.4)
abbrev pub is_too_long : List ℕ → Bool
is_too_long label = nat_lt 63 (length label) || nat_lt 63 (length (a_label_of label))

-- the refusal, where the label has this fault
abbrev pub fault_if : Bool → Refusal → Option Refusal
fault_if fails refusal = if fails then Some refusal else None

-- the first fault of a label, in this order
unfoldable pub first_fault : Properties → List ℕ → Option Refusal
first_fault properties label =
    first_of (
    fault_if (length label == 0) Empty
    ∷ code_point_fault properties label
    ∷ fault_if (not (is_nfc label)) NotNfc
    ∷ fault_if (has_hyphen_out_of_place label) Hyphen
    ∷ fault_if (leading_mark label) LeadingMark
    ∷ fault_if (not (contextj_ok properties label)) ContextJ
    ∷ fault_if (not (contexto_ok label)) ContextO
    ∷ fault_if (not (bidi_ok properties label)) Bidi
    ∷ fault_if (is_too_long label) LabelTooLong
    ∷ []
    )

-- the first fault of a label in UTF-8; other bytes are no label
unfoldable pub utf8_fault : Properties → List ℕ → Option Refusal
utf8_fault properties bytes = if is_utf8 bytes then first_fault properties (chars bytes) else Some NotUtf8

-- a label that may be registered has none
abbrev pub IsRegistrable : Properties → List ℕ → Type 0
IsRegistrable properties label = first_fault properties label ≡ None
