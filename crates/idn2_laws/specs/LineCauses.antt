-- What the cause of a refused line is, by what it has to be. Places and labels are counted from 0.
use Rattle.std.specs.Prelude.{◌≡◌, ◌≢◌, ◌⊎◌, ◌↔◌, ℕ, ◌<◌, true, false, List, [], ◌∷◌, length, chars, Option, Some, None}
use Rattle.std.specs.Prelude.{Err, slice_index}
use Rattle.std.specs.Str.{is_utf8, IsValidUpTo}
use Rattle.idn_class.specs.declared.properties.Properties.{Properties}
use Rattle.idna.specs.Validity.{has_ace_prefix}
use Rattle.idn_text.specs.Lines.{Numbered}
use Rattle.idn_text.specs.Points.{utf8_of}
use Rattle.idn_text.specs.declared.refusal.Refusal.{Refusal}
use Rattle.idn_text.specs.declared.refusal.Refusal.TheVariants.{Empty, Hyphen, LookupInvalid, NotInTable, NotValid}
use Rattle.idn_cause.specs.declared.cause.Cause.{Cause}
use Rattle.idn_cause.specs.declared.cause.Cause.TheVariants.{Point}
use Rattle.idn_cause.specs.Causes.{IsCause}
use Rattle.idn_cause.specs.ALabelCauses.{IsALabelCause}
use Rattle.idn_cause.specs.CodedLabels.{IsALabelOf}
use Rattle.idn_cause.specs.NameCauses.{IsNameCause, IsQueryCause}
use Rattle.variant_table.specs.Entries.{TableValue}
use Rattle.valid_labels.specs.Causes as validity_causes
use Rattle.valid_labels.specs.Validity.{IsSound}
use Rattle.valid_labels.specs.Furthest.{IsFurthest}
use Rattle.idn2_options.specs.Settings.{Settings, tells_causes}
use Rattle.idn2_options.specs.declared.command_line.mode.Mode.{Mode}
use Rattle.idn2_options.specs.declared.command_line.mode.Mode.TheVariants.{CheckTable, PrintTable}
use Rattle.idn2_answers.specs.Answers.{line_answer, mode_answer}
use Rattle.idn2_refusals.specs.Requests.{requested_label}
use Rattle.idn2_refusals.specs.Explained.{Explained, Unexplained, ByLabel, ByName, ByQuery, ByTable, ByRequest}
use Rattle.idn2_refusals.specs.Explained.{ByRegisteredLine, body_cause, validity_cause}
use Rattle.idn2_answers.specs.Transcript.{explained_in, Refuses, line_output, output_line_in}
use Rattle.idn2_refusals.specs.declared.cause.LineCause.{LineCause}
use Rattle.idn2_refusals.specs.declared.cause.LineCause.TheVariants.{Byte, LongLine, OfLabel, OfALabel, OfName, OfQuery}
use Rattle.idn2_refusals.specs.declared.cause.LineCause.TheVariants.{ALabelOf, NoALabel}

-- it is the cause of a label, a name or what else has one
abbrev pub IsOf : {X : Type 0} → (X → LineCause) → (X → Type 0) → LineCause → Type 0
IsOf {X} of Is cause = (x : X) × Is x × (cause ≡ of x)

-- of a label that is registered, or of what it stands for if it begins with "xn--"
abbrev pub IsRegistrationCause : Properties → List ℕ → Refusal → LineCause → Type 0
IsRegistrationCause properties label refusal cause =
    ((has_ace_prefix label ≡ true) × IsOf OfALabel (IsALabelCause properties label refusal) cause)
    ⊎ ((has_ace_prefix label ≡ false) × IsOf OfLabel (IsCause properties label refusal) cause)

-- what begins with "xn--" is the A-label of a label (RFC 5890, section 2.3.2.1), or of none
abbrev pub IsCodedCause : Properties → List ℕ → LineCause → Type 0
IsCodedCause properties given cause =
    ((label : List ℕ) × IsALabelOf properties given label × (cause ≡ ALabelOf (record { items = utf8_of label })))
    ⊎ (((label : List ℕ) → IsALabelOf properties given label → ⊥) × (cause ≡ NoALabel))

-- of a label where a U-label is wanted; its hyphens in the third and the fourth place may be those of "xn--"
abbrev pub IsULabelCause : Properties → List ℕ → Refusal → LineCause → Type 0
IsULabelCause properties label Hyphen cause =
    ((has_ace_prefix label ≡ true) × IsCodedCause properties label cause)
    ⊎ ((has_ace_prefix label ≡ false) × IsOf OfLabel (IsCause properties label Hyphen) cause)
IsULabelCause properties label refusal cause = IsOf OfLabel (IsCause properties label refusal) cause

-- of a label that isn't made of sources of a table: the code point after the furthest place that they reach (RFC 7940,
-- section 8.1)
abbrev pub IsNotInTableCause : TableValue → List ℕ → Cause → Type 0
IsNotInTableCause table label cause =
    (place : ℕ) × IsFurthest table label place × (place < length label)
    × (cause ≡ Point place (slice_index label place))

-- of a label that is made of sources of a ruleset and may not be asked about (RFC 7940, sections 7 and 8)
abbrev pub IsInvalidCause : TableValue → List ℕ → LineCause → Type 0
IsInvalidCause table label cause = IsOf (validity_cause table label) (validity_causes.IsCause table label) cause

-- of a label under a table
abbrev pub IsTableCause : Properties → TableValue → List ℕ → Refusal → LineCause → Type 0
IsTableCause properties table label NotInTable cause = IsOf OfLabel (IsNotInTableCause table label) cause
IsTableCause properties table label NotValid cause = IsInvalidCause table label cause
IsTableCause properties table label refusal cause = IsULabelCause properties label refusal cause

-- of the code points of a line
abbrev pub IsPointsCause : Explained → List ℕ → Refusal → LineCause → Type 0
IsPointsCause Unexplained points refusal cause = ⊥
IsPointsCause (ByLabel properties) points refusal cause = IsRegistrationCause properties points refusal cause
IsPointsCause (ByName properties) points refusal cause = IsOf OfName (IsNameCause properties points refusal) cause
IsPointsCause (ByQuery std3) points refusal cause = IsOf OfQuery (IsQueryCause (utf8_of points) std3 refusal) cause
IsPointsCause (ByTable properties table) points refusal cause = IsTableCause properties table points refusal cause
IsPointsCause (ByRequest properties table) points refusal cause =
    IsTableCause properties table (requested_label points) refusal cause
IsPointsCause (ByRegisteredLine properties) points refusal cause = IsULabelCause properties points refusal cause

-- the first byte that no UTF-8 goes on with (RFC 3629, section 3)
abbrev pub IsBadByte : List ℕ → LineCause → Type 0
IsBadByte bytes cause = (place : ℕ) × IsValidUpTo bytes place × (cause ≡ Byte place (slice_index bytes place))

-- of the body of a line: it is too long, or no UTF-8, or its code points are refused
abbrev pub IsLineCause : Explained → Option (List ℕ) → Refusal → LineCause → Type 0
IsLineCause how None refusal cause = cause ≡ LongLine
IsLineCause how (Some bytes) refusal cause =
    ((is_utf8 bytes ≡ false) × IsBadByte bytes cause)
    ⊎ ((is_utf8 bytes ≡ true) × IsPointsCause how (chars bytes) refusal cause)

-- a refused line is told with this cause, where causes are wanted, and with no other. Each has one but an empty line,
-- and a name of which ToASCII tells no more than that it is none (UTS 46, section 4.2)
pub record IsExplained (mode : Mode) (o : Settings) (table : TableValue) (line : Numbered)
    (refusal : Refusal) : Type 0 where
  pub exactly : (cause : LineCause) →
      (body_cause (explained_in mode o table) line.body refusal ≡ Some cause)
      ↔ IsLineCause (explained_in mode o table) line.body refusal cause
  pub always : refusal ≢ Empty → refusal ≢ LookupInvalid
      → body_cause (explained_in mode o table) line.body refusal ≢ None
  pub told : (cause : LineCause) → IsLineCause (explained_in mode o table) line.body refusal cause →
      line_output o.form (explained_in mode o table) (mode_answer mode o table) line
      ≡ output_line_in o.form (Refuses line refusal (Some cause)) ∷ []

-- the check of a table and its printing read no line
abbrev pub ReadsLines : Mode → Type 0
ReadsLines mode = (mode ≢ CheckTable) × (mode ≢ PrintTable)

-- so is each line that a mode refuses
abbrev pub RefusalsAreExplained : Type 0
RefusalsAreExplained =
    (mode : Mode) (o : Settings) (table : TableValue) (line : Numbered) (refusal : Refusal) → ReadsLines mode
    → tells_causes o ≡ true →
    IsSound table → line_answer (mode_answer mode o table) line.body ≡ Err refusal
    → IsExplained mode o table line refusal
