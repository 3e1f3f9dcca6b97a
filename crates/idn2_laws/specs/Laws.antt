-- Laws of the definitions.
use Rattle.std.specs.Prelude.{◌≡◌, ℕ, ◌≤◌, true, List, [], ◌∷◌, ◌++◌, length, map, Option, Some, slice_index}
use Rattle.std.specs.Str.{IsValidUpTo}
use Rattle.idn_class.specs.declared.properties.Properties.{Properties}
use Rattle.idn_text.specs.declared.refusal.Refusal.{Refusal}
use Rattle.idn_text.specs.declared.refusal.Refusal.TheVariants.{NotInTable}
use Rattle.idn_cause.specs.declared.cause.Cause.TheVariants.{Point}
use Rattle.lgr_table.specs.Texts.{IsTableOfText}
use Rattle.variant_table.specs.Entries.{TableValue}
use Rattle.variant_table.specs.Gaps.{gaps_of}
use Rattle.variant_table.specs.IdleTypes.{idle_types}
use Rattle.variant_table.specs.WellFormed.{IsWellFormed}
use Rattle.valid_labels.specs.Furthest.{IsFurthest}
use Rattle.valid_labels.specs.Validity.{IsSound}
use Rattle.variant_list.specs.Laws.{VariantsHaveNoConditions}
use Rattle.answer_json.specs.declared.checked.PairFinding.TheVariants.{Missing}
use Rattle.idn_text.specs.Lines.{Numbered}
use Rattle.idn2_options.specs.Settings.{Settings}
use Rattle.idn2_options.specs.declared.command_line.form.Form.TheVariants.{Plain, Json}
use Rattle.idn2_refusals.specs.CauseWords.{tail_text}
use Rattle.idn2_refusals.specs.Explained.{Unexplained, bad_byte, body_cause, table_cause}
use Rattle.idn2_answers.specs.Rulesets.{AnswersAsText}
use Rattle.idn2_answers.specs.Said.{Found, Idle, Counted}
use Rattle.idn2_answers.specs.Transcript.{TableGiven, check_findings, output_line_in, statements, status_of, transcript}
use Rattle.idn2_refusals.specs.Messages.{line_message, refused_message}
use Rattle.idn2_output.specs.OutputLines.{messages_of}
use Rattle.idn2_refusals.specs.declared.cause.LineCause.TheVariants.{Byte, OfLabel}

-- what messages go on with. Without the option nothing, so that they are as ever; of bytes that are no UTF-8 the first
-- that no UTF-8 goes on with (RFC 3629, section 3) is told, and of a label that can't be cut into sources the code
-- point after the furthest place that they reach (RFC 7940, section 8.1)
pub record CausesAreTold : Type 0 where
  pub unexplained : (body : Option (List ℕ)) (refusal : Refusal)
      → tail_text refusal (body_cause Unexplained body refusal) ≡ []
  pub plain : (number : ℕ) (refusal : Refusal) → refused_message number refusal [] ≡ line_message number refusal
  pub byte : (bytes : List ℕ) (place : ℕ) → IsValidUpTo bytes place
      → bad_byte bytes ≡ Byte place (slice_index bytes place)
  pub outside : (properties : Properties) (table : TableValue) (label : List ℕ) (place : ℕ) → IsWellFormed table.entries
      → length label ≤ 63 → IsFurthest table label place →
      table_cause properties table label NotInTable ≡ Some (OfLabel (Point place (slice_index label place)))

-- the check of a table of which no variant has a condition finds its gaps and its idle types, and nothing that differs
abbrev pub ConditionsAloneDiffer : Type 0
ConditionsAloneDiffer =
    (table : TableValue) → IsSound table → VariantsHaveNoConditions table →
    check_findings table ≡ map (Found Missing) (gaps_of table.entries) ++ (map Idle (idle_types table.definitions)
    ++ Counted (length table.entries) (length (gaps_of table.entries)) ∷ [])

-- a run writes what it says line by line, each statement in the form that is asked for. What it says is the same in
-- both forms: with objects, what it says with `--explain`. So is its status, and with objects nothing goes to the
-- messages
pub record FormsSayTheSame : Type 0 where
  pub written : (o : Settings) (given : TableGiven) (lines : List Numbered)
      → transcript o given lines ≡ map (output_line_in o.form) (statements o given lines)
  pub same : (o : Settings) (given : TableGiven) (lines : List Numbered)
      → statements (record o { form = Json }) given lines
      ≡ statements (record o { form = Plain; explain = true }) given lines
  pub status : (o : Settings) (given : TableGiven) (lines : List Numbered)
      → status_of (record o { form = Json }) given lines ≡ status_of (record o { form = Plain }) given lines
  pub silent : (o : Settings) (given : TableGiven) (lines : List Numbered) → o.form ≡ Json
      → messages_of (transcript o given lines) ≡ []

-- under each table that a ruleset in XML says, labels are answered as the ruleset says (RFC 7940, sections 5 to 8)
abbrev pub RulesetsAnswerAsTheySay : Type 0
RulesetsAnswerAsTheySay =
    (properties : Properties) (text : List ℕ) (table : TableValue) → IsTableOfText properties text table
    → AnswersAsText properties text table
