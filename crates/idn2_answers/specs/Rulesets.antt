-- Under a table that a ruleset in XML says, labels are answered as the ruleset says (RFC 7940, sections 5 to 8).
use Rattle.std.specs.Prelude.{◌↔◌, ℕ, Bool, List, Option}
use Rattle.idn_class.specs.declared.properties.Properties.{Properties}
use Rattle.idn_label.specs.FirstFault.{IsRegistrable}
use Rattle.lgr_text.specs.Dispositions.{IsAccepted, IsAllocatable, IsVariant}
use Rattle.lgr_text.specs.Labels as lgr
use Rattle.lgr_text.specs.Meanings.{AreMeaningsOf, Meanings}
use Rattle.lgr_text.specs.Names.{HasItsNames}
use Rattle.lgr_text.specs.Readings.{IsClear}
use Rattle.lgr_text.specs.Records.{Ruleset}
use Rattle.lgr_table.specs.Tables.{may_stand}
use Rattle.lgr_table.specs.Texts.{SaysRuleset}
use Rattle.answer_json.specs.declared.block.Disposition.{Disposition}
use Rattle.variant_table.specs.declared.version.Version.TheVariants.{Three}
use Rattle.variant_table.specs.Entries.{TableValue}
use Rattle.variant_table.specs.Segmentations.{IsMadeOfSources}
use Rattle.valid_labels.specs.Validity.{IsAdmitted}
use Rattle.variant_list.specs.Labels.{IsBelow}
use Rattle.idn2_options.specs.Settings.{Settings}
use Rattle.idn2_answers.specs.Dispositions.{IsDisposition, IsFieldOf}
use Rattle.idn2_answers.specs.Listings.{IsListed}

-- v is listed among the variants of the label: it may be registered, is greater than the text of the settings, and is a
-- variant by the ruleset
pub record IsListedAs (o : Settings) (may : ℕ → Bool) (r : Ruleset) (m : Meanings) (label v : List ℕ) : Type 0 where
  pub registrable : IsRegistrable o.properties v
  pub greater : IsBelow o.after v
  pub variant : IsVariant may r m label v

-- it is allocatable, blocked or unclear
abbrev pub IsDispositionBy : (ℕ → Bool) → Ruleset → Meanings → (label v : List ℕ) → Option Disposition → Type 0
IsDispositionBy may r m label v field = IsFieldOf Three (IsClear may r m label v) (IsAllocatable may r m label v) field

-- a label is made of sources, and may be asked about, exactly if that is so by the ruleset; what is listed for it, and
-- each disposition, is what the ruleset says
pub record AnswersAs (may : ℕ → Bool) (r : Ruleset) (m : Meanings) (table : TableValue) : Type 0 where
  pub made : (label : List ℕ) → IsMadeOfSources table label ↔ lgr.IsMadeOfSources may r label
  pub admitted : (label : List ℕ) → IsAdmitted table label ↔ IsAccepted may r m label
  pub listed : (o : Settings) (label v : List ℕ) → IsListed o table label v ↔ IsListedAs o may r m label v
  pub disposed : (label v : List ℕ) (field : Option Disposition) → IsVariant may r m label v
      → IsDisposition table label v field ↔ IsDispositionBy may r m label v field

-- the text says a ruleset, all names of which are defined. There is something that they stand for, and by whatever they
-- stand for, the table answers as the ruleset
pub record AnswersAsText (properties : Properties) (text : List ℕ) (table : TableValue) : Type 0 where
  pub ruleset_ : Ruleset
  pub said : SaysRuleset text ruleset_
  pub names : HasItsNames ruleset_
  pub meanings : Meanings
  pub are_meant : AreMeaningsOf (may_stand properties) ruleset_ meanings
  pub answers : (m : Meanings) → AreMeaningsOf (may_stand properties) ruleset_ m
      → AnswersAs (may_stand properties) ruleset_ m table
