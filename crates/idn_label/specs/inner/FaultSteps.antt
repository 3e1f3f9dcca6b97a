-- The first fault of a label, but for those of some kinds.
use Rattle.std.specs.Prelude.{ℕ, not, ◌==◌, List, [], ◌∷◌, length, Option}
use Rattle.unicode_normalization.specs.Forms.{is_nfc}
use Rattle.idn_text.specs.declared.refusal.Refusal.{Refusal}
use Rattle.idn_text.specs.declared.refusal.Refusal.TheVariants.{Empty, NotNfc, Hyphen, LeadingMark, ContextJ, ContextO}
use Rattle.idn_text.specs.declared.refusal.Refusal.TheVariants.{Bidi}
use Rattle.idn_class.specs.Tests.{leading_mark, contextj_ok, contexto_ok, bidi_ok}
use Rattle.idn_label.specs.FirstFault.{first_of, fault_if, code_point_fault, has_hyphen_out_of_place}
use Rattle.idn_class.specs.declared.properties.Properties.{Properties}

-- the faults that are neither of the code points nor of the length
abbrev pub rule_faults : Properties → List ℕ → List (Option Refusal)
rule_faults properties label =
    fault_if (not (is_nfc label)) NotNfc
    ∷ fault_if (has_hyphen_out_of_place label) Hyphen
    ∷ fault_if (leading_mark label) LeadingMark
    ∷ fault_if (not (contextj_ok properties label)) ContextJ
    ∷ fault_if (not (contexto_ok label)) ContextO
    ∷ fault_if (not (bidi_ok properties label)) Bidi
    ∷ []

unfoldable pub rule_fault : Properties → List ℕ → Option Refusal
rule_fault properties label = first_of (rule_faults properties label)

-- the first fault but for the length
unfoldable pub fault_but_length : Properties → List ℕ → Option Refusal
fault_but_length properties label =
    first_of (fault_if (length label == 0) Empty ∷ code_point_fault properties label ∷ rule_fault properties label ∷ [])
