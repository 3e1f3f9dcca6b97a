-- Why what begins with "xn--" is refused: what stands after that is no Punycode, or stands for a label that has another
-- A-label or a fault. Places are counted from 0.
use Rattle.std.specs.Prelude.{◌≡◌, ◌≢◌, ◌⊎◌, ℕ, ◌+◌, ◌==◌, true, IsTrue, List, [], length, drop, bytes_eq, Option, Some}
use Rattle.std.specs.Prelude.{None, Ok, Err, slice_index, if◌then◌else◌}
use Rattle.std.specs.Char.{is_ascii}
use Rattle.std.specs.Option.{option_map}
use Rattle.idna.specs.Punycode.{decode}
use Rattle.idna.specs.Validity.{is_all_ascii}
use Rattle.idn_text.specs.declared.refusal.Refusal.{Refusal}
use Rattle.idn_text.specs.declared.refusal.Refusal.TheVariants as refusals
use Rattle.idn_class.specs.Causes.{IsFirstFailing, failing_in}
use Rattle.idn_label.specs.ALabel.{a_label_of}
use Rattle.idn_label.specs.Answers.{Answer}
use Rattle.idn_label.specs.FirstFault.{first_fault, IsRegistrable}
use Rattle.idn_label.specs.Register.{decoded_code}
use Rattle.idn_cause.specs.declared.cause.Cause.{Cause}
use Rattle.idn_cause.specs.declared.a_label.ALabelCause.{ALabelCause}
use Rattle.idn_cause.specs.declared.a_label.ALabelCause.TheVariants.{NoCode, NotAscii, NoPunycode, Other, Decoded}
use Rattle.idn_cause.specs.Causes.{cause_of, IsCause}
use Rattle.idn_class.specs.declared.properties.Properties.{Properties}

-- ---- what is told

-- the code point at a place of the code, if there is one, else that the code is no Punycode.
-- The place is counted from the prefix on
abbrev pub past_ascii_or : List ℕ → Option ℕ → ALabelCause
past_ascii_or code (Some place) = NotAscii (place + 4) (slice_index code place)
past_ascii_or code None = NoPunycode

-- the first code point of a code that is not ASCII
abbrev pub past_ascii : List ℕ → Option ℕ
past_ascii code = failing_in code (λ place. is_ascii (slice_index code place))

-- why a code stands for no label (RFC 3492, section 6.2)
abbrev pub code_fault : List ℕ → ALabelCause
code_fault code = if length code == 0 then NoCode else past_ascii_or code (past_ascii code)

-- the A-label of a label without a fault, where it is another than the one given (RFC 5890, section 2.3.2.1)
abbrev pub other_a_label : List ℕ → List ℕ → Option Refusal → Option ALabelCause
other_a_label given label None =
    if bytes_eq (a_label_of label) given then None else Some (Other (record { items = a_label_of label }))
other_a_label given label (Some fault) = None

-- the cause where the code stands for no label, and where it stands for this one
abbrev pub undecoded_cause : List ℕ → Refusal → Option ALabelCause
undecoded_cause code refusals.BadALabel = Some (code_fault code)
undecoded_cause code refusal = None

abbrev pub decoded_cause : Properties → List ℕ → List ℕ → Refusal → Option ALabelCause
decoded_cause properties given label refusals.BadALabel = other_a_label given label (first_fault properties label)
decoded_cause properties given label refusal = option_map Decoded (cause_of properties label refusal)

abbrev pub cause_by_code : Properties → List ℕ → Refusal → Answer → Option ALabelCause
cause_by_code properties given refusal (Ok label) = decoded_cause properties given label refusal
cause_by_code properties given refusal (Err none) = undecoded_cause (drop 4 given) refusal

-- what gives what begins with "xn--" this fault, where that can be said
unfoldable pub a_label_cause : Properties → List ℕ → Refusal → Option ALabelCause
a_label_cause properties given refusal = cause_by_code properties given refusal (decoded_code (drop 4 given))

-- ---- the same, by what a cause is

-- the code stands for no label: it is empty, has a code point past ASCII, of which the first is told, or is no Punycode
-- (RFC 3492, section 6.2)
abbrev pub IsCodeFault : List ℕ → ALabelCause → Type 0
IsCodeFault code cause =
    ((code ≡ []) × (cause ≡ NoCode))
    ⊎ (((code ≢ []) × ((place : ℕ) × IsFirstFailing code (λ k. IsTrue (is_ascii (slice_index code k))) place
    × (cause ≡ NotAscii (place + 4) (slice_index code place))))
    ⊎ ((code ≢ []) × (is_all_ascii code ≡ true) × (decode code ≡ None) × (cause ≡ NoPunycode)))

-- the code stands for a label that may be registered, and that has another A-label (RFC 5890, section 2.3.2.1)
abbrev pub IsOtherALabel : Properties → List ℕ → ALabelCause → Type 0
IsOtherALabel properties given cause =
    (label : List ℕ) × (decoded_code (drop 4 given) ≡ Ok label) × IsRegistrable properties label
    × (a_label_of label ≢ given)
    × (cause ≡ Other (record { items = a_label_of label }))

-- the code stands for a label that has this fault for this cause
abbrev pub IsDecodedCause : Properties → List ℕ → Refusal → ALabelCause → Type 0
IsDecodedCause properties given refusal cause =
    (label : List ℕ) × (of_label : Cause) × (decoded_code (drop 4 given) ≡ Ok label)
    × IsCause properties label refusal of_label × (cause ≡ Decoded of_label)

-- the cause of this fault of what begins with "xn--"
abbrev pub IsALabelCause : Properties → List ℕ → Refusal → ALabelCause → Type 0
IsALabelCause properties given refusals.BadALabel cause =
    IsCodeFault (drop 4 given) cause ⊎ IsOtherALabel properties given cause
IsALabelCause properties given refusal cause = IsDecodedCause properties given refusal cause
