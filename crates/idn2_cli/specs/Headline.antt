-- The variant-list theorem in one record, and that of jumps: what stands on the output of a run, line for line.
use Rattle.std.specs.Prelude.{◌≡◌, ◌≢◌, ◌⊎◌, ℕ, false, true, List, [], ◌∷◌, ◌++◌, Option, Some, Ok, Err}
use Rattle.std.specs.List.{concat, flat_map}
use Rattle.std.specs.Io.KnownBytes.{Appends}
use Rattle.idn_text.specs.Points.{AreScalarValues, utf8_of}
use Rattle.idn_text.specs.Lines.{Numbered}
use Rattle.idn_text.specs.Reading.{Reading, HasRead}
use Rattle.idn_text.specs.declared.lines.State.TheVariants.{Ended}
use Rattle.idn_label.specs.FirstFault.{IsRegistrable}
use Rattle.variant_table.specs.Entries.{TableValue}
use Rattle.idn2_options.specs.Settings.{Settings}
use Rattle.idn2_options.specs.declared.command_line.form.Form.{Form}
use Rattle.idn2_options.specs.declared.command_line.form.Form.TheVariants.{Plain, Json}
use Rattle.idn_text.specs.declared.refusal.Refusal.{Refusal}
use Rattle.idn2_refusals.specs.Explained.{Explained, body_cause}
use Rattle.idn2_answers.specs.Rulesets.{AnswersAsText}
use Rattle.idn2_answers.specs.Transcript.{IsTableOf, explained_in, is_in_xml}
use Rattle.idn2_options.specs.declared.command_line.mode.Mode.{Mode}
use Rattle.idn2_options.specs.declared.command_line.mode.Mode.TheVariants.{Variants, Jump}
use Rattle.idn2_answers.specs.Said.{said_text}
use Rattle.idn2_refusals.specs.Messages.{refused_object}
use Rattle.idn2_refusals.specs.Requests.{requested_label}
use Rattle.idn2_refusals.specs.declared.cause.LineCause.{LineCause}
use Rattle.idn2_answers.specs.Answers.{LineAnswer, IsJumpAnswer, IsListing}
use Rattle.idn2_output.specs.declared.status.Status.{Status}
use Rattle.idn2_output.specs.declared.status.Status.TheVariants.{Clean, Refused}

-- what a refusal puts on the output: nothing, or its object
abbrev pub printed_refusal : Form → Numbered → Refusal → Option LineCause → List ℕ
printed_refusal Plain line refusal cause = []
printed_refusal Json line refusal cause = refused_object line refusal cause

-- what the answer to a line puts there: what is said, each with its line feed; or what a refusal does, with its cause
abbrev pub printed_of : Form → Explained → Numbered → LineAnswer → List ℕ
printed_of form how line (Ok said) = flat_map (said_text form line) said
printed_of form how line (Err refusal) = printed_refusal form line refusal (body_cause how line.body refusal)

-- a mode that answers labels by a table
abbrev pub AnswersLabels : Mode → Type 0
AnswersLabels mode = (mode ≡ Variants) ⊎ (mode ≡ Jump)

-- the label that a text asks about: with `--jump` that of a request, and else the text
abbrev pub asked_label : Mode → List ℕ → List ℕ
asked_label Jump request = requested_label request
asked_label mode label = label

-- the answer to such a text: the least near label, or the listing or the block of the label
abbrev pub IsAnswer : Mode → Settings → TableValue → List ℕ → LineAnswer → Type 0
IsAnswer Jump o table request answer = IsJumpAnswer o table request answer
IsAnswer mode o table label answer = IsListing o table label answer

-- the line is this text in UTF-8, and the label that it asks about may be registered
pub record IsLineOf (o : Settings) (text : List ℕ) (line : Numbered) : Type 0 where
  pub scalar_values : AreScalarValues text
  pub utf8 : line.body ≡ Some (utf8_of text)
  pub registrable : IsRegistrable o.properties (asked_label o.mode text)

-- these bytes stand on the output for a line: those of the answer to its text, or, where it asks about no label that
-- may be registered, those of a refusal
pub record IsPrintedFor (o : Settings) (table : TableValue) (line : Numbered) (printed : List ℕ) : Type 0 where
  pub answered : (text : List ℕ) → IsLineOf o text line
      → (answer : LineAnswer) × IsAnswer o.mode o table text answer
      × (printed ≡ printed_of o.form (explained_in o.mode o table) line answer)
  pub refused : ((text : List ℕ) → IsLineOf o text line → ⊥)
      → (refusal : Refusal) × (printed ≡ printed_of o.form (explained_in o.mode o table) line (Err refusal))

-- the same for each of these lines, in their order
abbrev pub ArePrintedFor : Settings → TableValue → List Numbered → List (List ℕ) → Type 0
ArePrintedFor o table [] [] = Unit {0}
ArePrintedFor o table (line ∷ lines) (printed ∷ others) =
    IsPrintedFor o table line printed × ArePrintedFor o table lines others
ArePrintedFor o table [] (printed ∷ others) = ⊥
ArePrintedFor o table (line ∷ lines) [] = ⊥

-- from here to there these lines of the input were read, and the output took what is printed for each of them, one
-- after the other: if the run answers 0 or 1, for all lines of the input and to the end, else up to where it stopped
pub record PrintsAnswers (o : Settings) (table : TableValue) (start now : Reading) (old new : Option (List ℕ))
    (status : Status) : Type 0 where
  pub given : List ℕ
  pub lines : List Numbered
  pub read : HasRead start now given lines
  pub printed : List (List ℕ)
  pub each : ArePrintedFor o table lines printed
  pub taken : List ℕ
  pub missing : List ℕ
  pub joined : concat printed ≡ taken ++ missing
  pub output : Appends old new taken
  pub whole : (status ≡ Clean) ⊎ (status ≡ Refused) → (now.state ≡ Ended) × (missing ≡ [])

-- no line was read: the table can't be used, or the run stopped before
pub record ReadsNothing (start now : Reading) (status : Status) : Type 0 where
  pub unread : now ≡ start
  pub not_clean : status ≢ Clean
  pub not_refused : status ≢ Refused

-- of a ruleset in XML the table answers each label as the ruleset says
abbrev pub AnswersAsItsText : Settings → List ℕ → TableValue → Type 0
AnswersAsItsText o text table = is_in_xml o.notation text ≡ true → AnswersAsText o.properties text table

-- the same by the text of a table. Lines spell one table at most, and what is printed is by that one. Of a ruleset in
-- XML it is by a table that answers as the ruleset says, unless no line was read
pub record PrintsByText (o : Settings) (text : List ℕ) (start now : Reading) (old new : Option (List ℕ))
    (status : Status) : Type 0 where
  pub spelled : (table : TableValue) → is_in_xml o.notation text ≡ false → IsTableOf o text (Ok table)
      → PrintsAnswers o table start now old new status
  pub said : ReadsNothing start now status
      ⊎ ((table : TableValue) × IsTableOf o text (Ok table) × AnswersAsItsText o text table
      × PrintsAnswers o table start now old new status)
