-- The cause that is told of a refused line, where causes are wanted: with `--explain` or `--json`. Places and labels
-- are counted from 0.
use Rattle.std.specs.Prelude.{◌≡◌, ◌≢◌, ℕ, nat_le, Bool, true, false, List, length, chars, Option, Some, None}
use Rattle.std.specs.Prelude.{slice_index, if◌then◌else◌}
use Rattle.std.specs.Option.{option_map}
use Rattle.std.specs.Str.{is_utf8}
use Rattle.std.specs.Str.Lossy.{utf8_valid_len}
use Rattle.idn_class.specs.declared.properties.Properties.{Properties}
use Rattle.idna.specs.Validity.{has_ace_prefix}
use Rattle.idn_text.specs.Points.{utf8_of}
use Rattle.idn_text.specs.declared.refusal.Refusal.{Refusal}
use Rattle.idn_text.specs.declared.refusal.Refusal.TheVariants.{Empty, Hyphen, LookupLength, NotInTable, NotValid}
use Rattle.idn_cause.specs.declared.cause.Cause.{Cause}
use Rattle.idn_cause.specs.declared.cause.Cause.TheVariants.{Point}
use Rattle.idn_cause.specs.Causes.{IsFoundWithoutMemory, cause_of}
use Rattle.idn_cause.specs.ALabelCauses.{a_label_cause}
use Rattle.idn_cause.specs.CodedLabels.{coded_label}
use Rattle.idn_cause.specs.NameCauses.{name_cause, query_cause}
use Rattle.ruleset_text.specs.Definitions.{rule_name, type_name}
use Rattle.variant_table.specs.Entries.{TableValue}
use Rattle.valid_labels.specs.declared.cause.ValidityCause.{ValidityCause}
use Rattle.valid_labels.specs.declared.cause.ValidityCause.TheVariants as validity
use Rattle.valid_labels.specs.declared.cause.ActionCause.{ActionCause}
use Rattle.valid_labels.specs.declared.cause.ActionCause.TheVariants as triggered
use Rattle.valid_labels.specs.Causes as validity_causes
use Rattle.valid_labels.specs.Furthest.{furthest}
use Rattle.idn2_refusals.specs.Requests.{requested_label}
use Rattle.idn2_refusals.specs.declared.cause.LineCause.{LineCause}
use Rattle.idn2_refusals.specs.declared.cause.LineCause.TheVariants.{Byte, LongLine, OfLabel, OfALabel, OfName, OfQuery}
use Rattle.idn2_refusals.specs.declared.cause.LineCause.TheVariants.{Misplaced, NoEntry, Broken, Unclear, ActionAsking}
use Rattle.idn2_refusals.specs.declared.cause.LineCause.TheVariants.{ActionOfType, Action, DefaultAction, ALabelOf}
use Rattle.idn2_refusals.specs.declared.cause.LineCause.TheVariants.{NoALabel}

-- of what the cause is told: of nothing, of a label, of a name that is decoded, of one that is looked up, of a label by
-- the sources of a table, of the label of a request by them, or of a label that is tested as it stands
pub data Explained : Type 0 where
  Unexplained : Explained
  ByLabel : (properties : Properties) → Explained
  ByName : (properties : Properties) → Explained
  ByQuery : (std3 : Bool) → Explained
  ByTable : (properties : Properties) (table : TableValue) → Explained
  ByRequest : (properties : Properties) (table : TableValue) → Explained
  ByRegisteredLine : (properties : Properties) → Explained

-- the same, if causes are wanted
abbrev pub if_wanted : Bool → Explained → Explained
if_wanted explain explained = if explain then explained else Unexplained

-- ---- the cause of a refusal

-- of a label, or of what it stands for if it begins with "xn--"
abbrev pub registration_cause : Properties → List ℕ → Refusal → Option LineCause
registration_cause properties label refusal =
    if has_ace_prefix label then option_map OfALabel (a_label_cause properties label refusal)
    else option_map OfLabel (cause_of properties label refusal)

-- of what begins with "xn--" where a U-label is wanted: the U-label of an A-label (RFC 5890, section 2.3.2.1), or that
-- it is none
abbrev pub coded_cause : Option (List ℕ) → LineCause
coded_cause (Some utf8) = ALabelOf (record { items = utf8 })
coded_cause None = NoALabel

-- of a label where a U-label is wanted: "xn--" puts two hyphens into the third and the fourth place (RFC 5891, section
-- 4.2.3.1)
unfoldable pub u_label_cause : Properties → List ℕ → Refusal → Option LineCause
u_label_cause properties label Hyphen =
    if has_ace_prefix label then Some (coded_cause (coded_label properties label))
    else option_map OfLabel (cause_of properties label Hyphen)
u_label_cause properties label refusal = option_map OfLabel (cause_of properties label refusal)

-- the code point after those that sources of the table reach, of a label that is short enough to be registered (RFC
-- 7940, section 8.1)
abbrev pub not_in_table_cause : TableValue → List ℕ → Option Cause
not_in_table_cause table label =
    if nat_le (length label) 63 then Some (Point (furthest table label) (slice_index label (furthest table label)))
    else None

-- an action by its number, with what is asked of its rule; or by the first source of a type that it names; or by its
-- number alone
abbrev pub action_cause : TableValue → List ℕ → ℕ → ActionCause → LineCause
action_cause table label number (triggered.Rule condition) =
    ActionAsking number condition.kind (record { items = rule_name table.definitions condition.rule })
action_cause table label number (triggered.Source place type_number) =
    ActionOfType number place (slice_index label place) (record { items = type_name table.definitions type_number })
action_cause table label number triggered.Other = Action number

-- why a label that is made of sources may not be asked about: what is asked of the rule of the longest source at the
-- place where it isn't eligible, or that no source is there; a demand by its number; that it is unclear; or an action
abbrev pub validity_cause : TableValue → List ℕ → ValidityCause → LineCause
validity_cause table label (validity.NotEligible place None) = NoEntry place (slice_index label place)
validity_cause table label (validity.NotEligible place (Some condition)) =
    Misplaced place (slice_index label place) condition.kind
    (record { items = rule_name table.definitions condition.rule })
validity_cause table label (validity.Broken number kind) = Broken number kind
validity_cause table label validity.Unclear = Unclear
validity_cause table label (validity.Action number cause) = action_cause table label number cause
validity_cause table label (validity.DefaultAction place) = DefaultAction place (slice_index label place)

-- why a label that is short enough to be registered, and made of sources, may not be asked about (RFC 7940, sections
-- 7 and 8.1)
abbrev pub invalid_cause : TableValue → List ℕ → Option LineCause
invalid_cause table label =
    if nat_le (length label) 63 then option_map (validity_cause table label) (validity_causes.cause_of table label)
    else None

-- of a label by the sources of a table, and by what the table asks of its labels
abbrev pub table_cause : Properties → TableValue → List ℕ → Refusal → Option LineCause
table_cause properties table label NotInTable = option_map OfLabel (not_in_table_cause table label)
table_cause properties table label NotValid = invalid_cause table label
table_cause properties table label refusal = u_label_cause properties label refusal

-- of the code points of a line
unfoldable pub points_cause : Explained → List ℕ → Refusal → Option LineCause
points_cause Unexplained points refusal = None
points_cause (ByLabel properties) points refusal = registration_cause properties points refusal
points_cause (ByName properties) points refusal = option_map OfName (name_cause properties points refusal)
points_cause (ByQuery std3) points refusal = option_map OfQuery (query_cause (utf8_of points) std3 refusal)
points_cause (ByTable properties table) points refusal = table_cause properties table points refusal
points_cause (ByRequest properties table) points refusal = table_cause properties table (requested_label points) refusal
points_cause (ByRegisteredLine properties) points refusal = u_label_cause properties points refusal

-- the first byte that no UTF-8 goes on with (RFC 3629, section 3)
abbrev pub bad_byte : List ℕ → LineCause
bad_byte bytes = Byte (utf8_valid_len bytes) (slice_index bytes (utf8_valid_len bytes))

-- a cause, if causes are told
abbrev pub unless_unexplained : Explained → LineCause → Option LineCause
unless_unexplained Unexplained cause = None
unless_unexplained _ cause = Some cause

-- of the bytes of a line, which may be no UTF-8
abbrev pub text_cause : Explained → List ℕ → Refusal → Option LineCause
text_cause explained bytes refusal =
    if is_utf8 bytes then points_cause explained (chars bytes) refusal
    else unless_unexplained explained (bad_byte bytes)

-- of the body of a line, which may be too long
abbrev pub body_cause : Explained → Option (List ℕ) → Refusal → Option LineCause
body_cause explained None refusal = unless_unexplained explained LongLine
body_cause explained (Some bytes) refusal = text_cause explained bytes refusal

-- ---- causes that are told without memory

-- of a label; what begins with "xn--" may take some to be decoded
abbrev pub LabelCauseNeedsNone : List ℕ → Refusal → Type 0
LabelCauseNeedsNone label refusal = (has_ace_prefix label ≡ false) × IsFoundWithoutMemory refusal

-- of a label by the sources of a table; of what a ruleset asks of it the cause may take some
abbrev pub TableCauseNeedsNone : List ℕ → Refusal → Type 0
TableCauseNeedsNone label NotValid = ⊥
TableCauseNeedsNone label refusal = LabelCauseNeedsNone label refusal

-- of the code points of a line
abbrev pub PointsCauseNeedsNone : Explained → List ℕ → Refusal → Type 0
PointsCauseNeedsNone Unexplained points refusal = Unit {0}
PointsCauseNeedsNone (ByLabel properties) points refusal = LabelCauseNeedsNone points refusal
PointsCauseNeedsNone (ByName properties) points refusal = refusal ≡ Empty
PointsCauseNeedsNone (ByQuery std3) points refusal = refusal ≢ LookupLength
PointsCauseNeedsNone (ByTable properties table) points refusal = TableCauseNeedsNone points refusal
PointsCauseNeedsNone (ByRequest properties table) points refusal = TableCauseNeedsNone (requested_label points) refusal
PointsCauseNeedsNone (ByRegisteredLine properties) points refusal = LabelCauseNeedsNone points refusal

-- of the bytes of a line, which may be no UTF-8
abbrev pub TextCauseNeedsNone : Explained → List ℕ → Refusal → Type 0
TextCauseNeedsNone explained bytes refusal = is_utf8 bytes ≡ true → PointsCauseNeedsNone explained (chars bytes) refusal

-- of the body of a line, which may be too long
abbrev pub BodyCauseNeedsNone : Explained → Option (List ℕ) → Refusal → Type 0
BodyCauseNeedsNone how None refusal = Unit {0}
BodyCauseNeedsNone how (Some bytes) refusal = TextCauseNeedsNone how bytes refusal
