-- Why a name is refused: which label, and what is wrong with it. Labels are counted from 0.
use Rattle.std.specs.Prelude.{◌≡◌, ◌≢◌, ◌⊎◌, ℕ, zero, suc, ◌-◌, ◌<◌, nat_lt, Bool, true, false, IsTrue, List, [], ◌∷◌}
use Rattle.std.specs.Prelude.{length, map, take, slice_index, Option, Some, None, Result, Ok, if◌then◌else◌}
use Rattle.std.specs.Char.{to_ascii_lowercase}
use Rattle.std.specs.Int.{is_in_range}
use Rattle.std.specs.List.{AllByRecursion}
use Rattle.std.specs.Option.{is_none, is_some, option_map}
use Rattle.std.specs.Result.{is_ok}
use Rattle.idna.specs.declared.options.Hyphens.TheVariants.{Allow}
use Rattle.idna.specs.declared.options.DnsLength.TheVariants.{Ignore}
use Rattle.idna.specs.Labels.{is_full_stop, labels_of}
use Rattle.idna.specs.Uts46.{to_ascii}
use Rattle.idn_text.specs.declared.refusal.Refusal.{Refusal}
use Rattle.idn_text.specs.declared.refusal.Refusal.TheVariants.{Bidi, LookupLength}
use Rattle.idn_text.specs.declared.refusal.Refusal.TheVariants as refusals
use Rattle.idn_class.specs.declared.broken.BidiCondition.{BidiCondition}
use Rattle.idn_class.specs.BidiClass.{bidi_class}
use Rattle.idn_class.specs.BidiRule.{MeetsSixConditions}
use Rattle.idn_class.specs.Causes.{broken_in_name, IsFirstBrokenInName}
use Rattle.idn_label.specs.Decode.{decoded_label, decoded_labels, name_fault}
use Rattle.idn_label.specs.Lookup.{deny_list}
use Rattle.idn_label.specs.Steps.{begins_with_prefix}
use Rattle.idn_cause.specs.declared.a_label.ALabelCause.{ALabelCause}
use Rattle.idn_cause.specs.declared.a_label.ALabelCause.TheVariants.{Decoded, Copied}
use Rattle.idn_cause.specs.declared.cause.Cause.{Cause}
use Rattle.idn_cause.specs.declared.cause.Cause.TheVariants.{Condition}
use Rattle.idn_cause.specs.Causes.{condition_at}
use Rattle.idn_cause.specs.declared.name.NameCause.{NameCause}
use Rattle.idn_cause.specs.declared.query.LengthCause.{LengthCause}
use Rattle.idn_cause.specs.declared.query.LengthCause.TheVariants.{LabelOctets, NameOctets}
use Rattle.idn_cause.specs.ALabelCauses.{a_label_cause, IsALabelCause}
use Rattle.idn_cause.specs.NameLabels.{first_failing_label, IsFirstFailingLabel}
use Rattle.idn_class.specs.declared.properties.Properties.{Properties}

-- ---- decoding (RFC 5891, section 5.3)

-- a label is decoded, or stays as it is
abbrev pub is_decoded : Properties → List ℕ → Bool
is_decoded properties label = is_ok (decoded_label properties label)

-- the label of a number with a cause
abbrev pub at_label : ℕ → Option ALabelCause → Option NameCause
at_label number cause = option_map (λ of_label. record { label = number; cause = of_label }) cause

-- the cause of this fault of the label, in lower case, if there is one
abbrev pub cause_at_label : Properties → Refusal → Option (ℕ × List ℕ) → Option NameCause
cause_at_label properties refusal None = None
cause_at_label properties refusal (Some (number, label)) =
    at_label number (a_label_cause properties (map to_ascii_lowercase label) refusal)

-- the label of a number
abbrev pub label_of_number : ℕ → List (List ℕ) → List ℕ
label_of_number number [] = []
label_of_number zero (label ∷ labels) = label
label_of_number (suc number) (label ∷ labels) = label_of_number number labels

-- a cause in a label of a decoded name, which was an A-label or stays as it is
abbrev pub of_decoded : Bool → Cause → ALabelCause
of_decoded true cause = Decoded cause
of_decoded false cause = Copied cause

-- the first condition of the Bidi rule that a label of this number breaks, as it is decoded
abbrev pub broken_at_label : Properties → List ℕ → Option (ℕ × List ℕ) → Option NameCause
broken_at_label properties name None = None
broken_at_label properties name (Some (number, label)) =
    at_label number
    (option_map (of_decoded (begins_with_prefix (label_of_number number (labels_of name))))
    (condition_at properties label (broken_in_name properties label)))

-- the label breaks no condition
abbrev pub breaks_none : Properties → List ℕ → Bool
breaks_none properties label = is_none (broken_in_name properties label)

-- the cause of this fault of a name with these labels, each of which is decoded: the Bidi rule of the whole name (RFC
-- 5893, section 2), the first label that breaks it, and the first condition that it breaks
abbrev pub whole_name_cause : Properties → List ℕ → Refusal → Result (List (List ℕ)) Refusal → Option NameCause
whole_name_cause properties name refusals.Bidi (Ok labels) =
    if is_some (name_fault properties labels) then broken_at_label properties name
    (first_failing_label (breaks_none properties) 0 labels) else None
whole_name_cause properties name refusal labels = None

-- what gives a name that is decoded this fault: the first label that is refused, and the cause;
-- else that of the whole name
abbrev pub found_cause : Properties → List ℕ → Refusal → Option (ℕ × List ℕ) → Option NameCause
found_cause properties name refusal None =
    whole_name_cause properties name refusal (decoded_labels properties (labels_of name))
found_cause properties name refusal (Some found) = cause_at_label properties refusal (Some found)

unfoldable pub name_cause : Properties → List ℕ → Refusal → Option NameCause
name_cause properties name refusal =
    found_cause properties name refusal (first_failing_label (is_decoded properties) 0 (labels_of name))

-- the first label that is refused, and its cause
abbrev pub IsLabelCause : Properties → List ℕ → Refusal → NameCause → Type 0
IsLabelCause properties name refusal cause =
    (label : List ℕ) × IsFirstFailingLabel (labels_of name) (λ other. IsTrue (is_decoded properties other)) cause.label
    label
    × IsALabelCause properties (map to_ascii_lowercase label) refusal cause.cause

-- each label is decoded, the name as a whole breaks the Bidi rule, and this is the first decoded label that does, with
-- the first condition that it breaks, and the code point that breaks it
abbrev pub IsWholeNameCause : Properties → List ℕ → NameCause → Type 0
IsWholeNameCause properties name cause =
    (labels : List (List ℕ)) × (label : List ℕ) × (condition : BidiCondition) × (place : ℕ)
    × (decoded_labels properties (labels_of name) ≡ Ok labels) × (name_fault properties labels ≡ Some Bidi)
    × IsFirstFailingLabel labels (λ other. other ≢ [] → MeetsSixConditions (map (bidi_class properties) other))
    cause.label label
    × IsFirstBrokenInName properties label condition place
    × (cause.cause
    ≡ of_decoded (begins_with_prefix (label_of_number cause.label (labels_of name)))
    (Condition (record { condition = condition; place = place }) (slice_index label place)
    (bidi_class properties (slice_index label place))))

-- the cause of a refused name, by what it has to be
abbrev pub IsNameCause : Properties → List ℕ → Refusal → NameCause → Type 0
IsNameCause properties name refusals.Bidi cause =
    IsLabelCause properties name Bidi cause ⊎ IsWholeNameCause properties name cause
IsNameCause properties name refusal cause = IsLabelCause properties name refusal cause

-- ---- lookup: the lengths that the DNS allows (UTS 46, section 4.2, step 4; RFC 1035, section 2.3.4)

-- a name without the full stop at its end
abbrev pub without_root : List ℕ → List ℕ
without_root name = if is_full_stop (slice_index name (length name - 1)) then take (length name - 1) name else name

-- a label of 1 to 63 octets
abbrev pub has_label_length : List ℕ → Bool
has_label_length label = is_in_range 1 63 (length label)

-- the octets of a label; without one those of the name, if they are more than 253
abbrev pub length_cause_or : ℕ → Option (ℕ × List ℕ) → Option LengthCause
length_cause_or octets (Some (number, label)) = Some (LabelOctets number (length label))
length_cause_or octets None = if nat_lt 253 octets then Some (NameOctets octets) else None

-- what gives a name in ASCII a length that the DNS does not allow: the first such label, else the octets of the name
abbrev pub length_cause : List ℕ → Option LengthCause
length_cause ascii =
    length_cause_or (length (without_root ascii)) (first_failing_label has_label_length 0
    (labels_of (without_root ascii)))

-- the cause of a wrong length of what ToASCII makes of a name, if it makes something of it
abbrev pub length_cause_of : Option (List ℕ) → Option LengthCause
length_cause_of None = None
length_cause_of (Some ascii) = length_cause ascii

-- what gives a name in UTF-8 this fault at its lookup, where that can be said
unfoldable pub query_cause : List ℕ → Bool → Refusal → Option LengthCause
query_cause utf8 std3 LookupLength = length_cause_of (to_ascii (deny_list std3) Allow Ignore utf8)
query_cause utf8 std3 refusal = None

-- the cause of a wrong length, by what it has to be
abbrev pub IsLengthCause : List ℕ → LengthCause → Type 0
IsLengthCause name (LabelOctets number octets) =
    (label : List ℕ) × IsFirstFailingLabel (labels_of name) (λ other. IsTrue (has_label_length other)) number label
    × (octets ≡ length label)
IsLengthCause name (NameOctets octets) =
    AllByRecursion (λ other. IsTrue (has_label_length other)) (labels_of name) × (253 < octets) × (octets ≡ length name)

abbrev pub IsQueryCause : List ℕ → Bool → Refusal → LengthCause → Type 0
IsQueryCause utf8 std3 LookupLength cause =
    (ascii : List ℕ) × (to_ascii (deny_list std3) Allow Ignore utf8 ≡ Some ascii)
    × IsLengthCause (without_root ascii) cause
IsQueryCause utf8 std3 refusal cause = ⊥
