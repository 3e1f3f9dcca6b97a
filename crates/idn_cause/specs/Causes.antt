-- Why a label has its first fault: what breaks the rule, and the first place at which it does.
-- Places are counted from 0.
use Rattle.std.specs.Prelude.{◌≡◌, ◌≢◌, ◌⊎◌, ℕ, suc, ◌+◌, ◌<◌, ◌≤◌, take, [], ◌∷◌, nat_lt, Bool, ◌&&◌, ◌||◌, not, ◌==◌}
use Rattle.std.specs.Prelude.{List, length, Option, Some, None, slice_index, slice_get, if◌then◌else◌}
use Rattle.std.specs.Option.{is_none}
use Rattle.unicode_normalization.specs.Forms.{nfc, is_nfc}
use Rattle.idn_text.specs.declared.refusal.Refusal.{Refusal}
use Rattle.idn_text.specs.declared.refusal.Refusal.TheVariants as refusals
use Rattle.idn_class.specs.declared.barring.BarringLine.{BarringLine}
use Rattle.idn_class.specs.declared.broken.Broken.{Broken}
use Rattle.idn_class.specs.declared.broken.BidiCondition.{BidiCondition}
use Rattle.idn_class.specs.Barring.{barring_line, IsBarredBy}
use Rattle.idn_class.specs.BidiClass.{bidi_class}
use Rattle.idn_class.specs.Class.{class_of}
use Rattle.idn_class.specs.ContextJ.{JoinerPasses}
use Rattle.idn_class.specs.ContextO.{OtherPasses}
use Rattle.idn_class.specs.LeadingMark.{BeginsWithMark}
use Rattle.idn_class.specs.Shared.{IsLongestShared}
use Rattle.idn_class.specs.Tests.{leading_mark}
use Rattle.idn_class.specs.Causes.{IsFirstFailing, IsFirstBroken, failing_in, misplaced_joiner, misplaced_other}
use Rattle.idn_class.specs.Causes.{broken_condition}
use Rattle.idn_label.specs.ALabel.{a_label_of}
use Rattle.idn_label.specs.FirstFault.{fault_of_class}
use Rattle.idn_cause.specs.declared.cause.Cause.{Cause}
use Rattle.idn_cause.specs.declared.cause.Cause.TheVariants.{Barred, Changed, Hyphen, Point, Condition, Points, Octets}
use Rattle.idn_class.specs.declared.properties.Properties.{Properties}

-- ---- what is told

-- the first place whose code point is DISALLOWED or UNASSIGNED (RFC 5891, section 4.2.2)
abbrev pub barred_place : Properties → List ℕ → Option ℕ
barred_place properties label =
    failing_in label (λ place. is_none (fault_of_class (class_of properties (slice_index label place))))

-- the code point at a place, with the line that bars it
abbrev pub barred_by : List ℕ → ℕ → Option BarringLine → Option Cause
barred_by label place None = None
barred_by label place (Some line) = Some (Barred place (slice_index label place) line)

-- the code point at a place, with the line that bars it, if there is such a place
abbrev pub barred_at : Properties → List ℕ → Option ℕ → Option Cause
barred_at properties label None = None
barred_at properties label (Some place) = barred_by label place (barring_line properties (slice_index label place))

-- how many code points two labels share at their start
abbrev pub shared : List ℕ → List ℕ → ℕ
shared [] other = 0
shared (c ∷ label) [] = 0
shared (c ∷ label) (d ∷ other) = if c == d then suc (shared label other) else 0

-- the first place at which a label and its Normalization Form C differ, where they do (RFC 5891, section 4.2.1)
abbrev pub changed_place : List ℕ → Option ℕ
changed_place label = if is_nfc label then None else Some (shared label (nfc label))

-- the code points that the label and its Normalization Form C have at a place; the form may end there
abbrev pub changed_at : List ℕ → Option ℕ → Option Cause
changed_at label None = None
changed_at label (Some place) = Some (Changed place (slice_index label place) (slice_get (nfc label) place))

-- U+002D stands at a place, and that is the first, the last, or the third with another one in the fourth (RFC 5891,
-- section 4.2.3.1)
abbrev pub is_hyphen_out_of_place : List ℕ → ℕ → Bool
is_hyphen_out_of_place label place =
    (slice_index label place == 0x2D)
    && ((place == 0) || (place + 1 == length label) || (place == 2) && (slice_index label 3 == 0x2D))

-- the first such place
abbrev pub misplaced_hyphen : List ℕ → Option ℕ
misplaced_hyphen label = failing_in label (λ place. not (is_hyphen_out_of_place label place))

-- a hyphen at a place of a label that is so long
abbrev pub hyphen_at : List ℕ → Option ℕ → Option Cause
hyphen_at label None = None
hyphen_at label (Some place) = Some (Hyphen place (length label))

-- the first place, where a combining mark stands there (RFC 5891, section 4.2.3.2)
abbrev pub leading_place : List ℕ → Option ℕ
leading_place label = if leading_mark label then Some 0 else None

-- a place and the code point there
abbrev pub point_at : List ℕ → Option ℕ → Option Cause
point_at label None = None
point_at label (Some place) = Some (Point place (slice_index label place))

-- the condition of the Bidi rule that is broken, with the code point that breaks it and its Bidi_Class
-- (RFC 5893, section 2)
abbrev pub condition_at : Properties → List ℕ → Option Broken → Option Cause
condition_at properties label None = None
condition_at properties label (Some broken) =
    Some (Condition broken (slice_index label broken.place) (bidi_class properties (slice_index label broken.place)))

-- more than 63 code points, else the octets of the A-label if they are more than 63 (RFC 5891, section 4.4)
abbrev pub length_at : List ℕ → Option Cause
length_at label =
    if nat_lt 63 (length label) then Some (Points (length label))
    else (if nat_lt 63 (length (a_label_of label)) then Some (Octets (length (a_label_of label))) else None)

-- what gives a label this fault, where that can be said
unfoldable pub cause_of : Properties → List ℕ → Refusal → Option Cause
cause_of properties label refusals.Disallowed = barred_at properties label (barred_place properties label)
cause_of properties label refusals.Unassigned = barred_at properties label (barred_place properties label)
cause_of properties label refusals.NotNfc = changed_at label (changed_place label)
cause_of properties label refusals.Hyphen = hyphen_at label (misplaced_hyphen label)
cause_of properties label refusals.LeadingMark = point_at label (leading_place label)
cause_of properties label refusals.ContextJ = point_at label (misplaced_joiner properties label)
cause_of properties label refusals.ContextO = point_at label (misplaced_other label)
cause_of properties label refusals.Bidi = condition_at properties label (broken_condition properties label)
cause_of properties label refusals.LabelTooLong = length_at label
cause_of properties label _ = None

-- this fault's cause is found without memory; only a class, Normalization Form C and an A-label may take some
abbrev pub IsFoundWithoutMemory : Refusal → Type 0
IsFoundWithoutMemory refusals.Disallowed = ⊥
IsFoundWithoutMemory refusals.Unassigned = ⊥
IsFoundWithoutMemory refusals.NotNfc = ⊥
IsFoundWithoutMemory refusals.LabelTooLong = ⊥
IsFoundWithoutMemory _ = Unit {0}

-- ---- the same, by what a cause is

-- the cause is the first place at which what is asked fails, with the code point there
abbrev pub IsFirstPoint : List ℕ → (ℕ → Type 0) → Cause → Type 0
IsFirstPoint label Passes cause =
    (place : ℕ) × (cause ≡ Point place (slice_index label place)) × IsFirstFailing label Passes place

-- the code point at a place may be registered, as far as its class says (RFC 5892, section 3)
abbrev pub IsPermitted : Properties → List ℕ → ℕ → Type 0
IsPermitted properties label place = fault_of_class (class_of properties (slice_index label place)) ≡ None

-- the cause is the first code point that may not be registered, with the line of RFC 5892, section 3, that bars it
abbrev pub IsFirstBarred : Properties → List ℕ → Cause → Type 0
IsFirstBarred properties label cause =
    (place : ℕ) × (line : BarringLine) × (cause ≡ Barred place (slice_index label place) line)
    × IsFirstFailing label (IsPermitted properties label) place × IsBarredBy properties (slice_index label place) line

-- the place is the first, the last, or the third before a hyphen
abbrev pub IsBarredToHyphens : List ℕ → ℕ → Type 0
IsBarredToHyphens label place =
    (place ≡ 0) ⊎ ((place + 1 ≡ length label) ⊎ ((place ≡ 2) × (slice_index label 3 ≡ 0x2D)))

-- no hyphen stands at the place if none may
abbrev pub HasNoHyphenOutOfPlace : List ℕ → ℕ → Type 0
HasNoHyphenOutOfPlace label place = ¬ ((slice_index label place ≡ 0x2D) × IsBarredToHyphens label place)

-- two labels are the same up to the place, and not beyond it
pub record DifferFirstAt (label other : List ℕ) (place : ℕ) : Type 0 where
  pub same : take place label ≡ take place other
  pub within_label : place ≤ length label
  pub within_other : place ≤ length other
  pub longest : IsLongestShared label other place

-- the cause of this fault of a label, in the words of the standard
abbrev pub IsCause : Properties → List ℕ → Refusal → Cause → Type 0
-- RFC 5891, section 4.2.2: the first code point that is DISALLOWED or UNASSIGNED
IsCause properties label refusals.Disallowed cause = IsFirstBarred properties label cause
IsCause properties label refusals.Unassigned cause = IsFirstBarred properties label cause
-- section 4.2.1: the first place at which the label is not its Normalization Form C
IsCause properties label refusals.NotNfc cause =
    (place : ℕ) × (cause ≡ Changed place (slice_index label place) (slice_get (nfc label) place))
    × (nfc label ≢ label) × DifferFirstAt label (nfc label) place
-- section 4.2.3.1: the first hyphen where none may stand
IsCause properties label refusals.Hyphen cause =
    (place : ℕ) × (cause ≡ Hyphen place (length label)) × IsFirstFailing label (HasNoHyphenOutOfPlace label) place
-- section 4.2.3.2: the first code point, which is a mark
IsCause properties label refusals.LeadingMark cause = (cause ≡ Point 0 (slice_index label 0)) × BeginsWithMark label
-- section 4.2.3.3: the first joiner against its rule, and the first other code point against its rule
IsCause properties label refusals.ContextJ cause = IsFirstPoint label (JoinerPasses properties label) cause
IsCause properties label refusals.ContextO cause = IsFirstPoint label (OtherPasses label) cause
-- section 4.2.3.4: the first condition of the Bidi rule that is broken, and the code point that breaks it
IsCause properties label refusals.Bidi cause =
    (condition : BidiCondition) × (place : ℕ)
    × (cause ≡ Condition (record { condition = condition; place = place }) (slice_index label place)
    (bidi_class properties (slice_index label place)))
    × IsFirstBroken properties label condition place
-- section 4.4, and a limit of this program: the code points, or the octets of the A-label
IsCause properties label refusals.LabelTooLong cause =
    ((63 < length label) × (cause ≡ Points (length label)))
    ⊎ ((¬ (63 < length label)) × (63 < length (a_label_of label)) × (cause ≡ Octets (length (a_label_of label))))
IsCause properties label _ cause = ⊥
