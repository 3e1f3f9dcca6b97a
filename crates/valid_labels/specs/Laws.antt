-- Laws of the definitions.
use Rattle.std.specs.Prelude.{◌≡◌, ◌≢◌, ◌⊎◌, ◌↔◌, ℕ, Bool, List, [], ◌++◌, length, Some, None, IsTrue}
use Rattle.std.specs.List.{AllByRecursion}
use Rattle.reading_kinds.specs.Readings.{Substitution, AreSubstitutions, SubstitutionsSpell}
use Rattle.variant_dispositions.specs.declared.action.Action.{Action}
use Rattle.variant_dispositions.specs.declared.disposition.Disposition.{Disposition}
use Rattle.variant_dispositions.specs.declared.disposition.Disposition.TheVariants.{Valid}
use Rattle.variant_dispositions.specs.declared.variant.VariantDisposition.{VariantDisposition}
use Rattle.variant_dispositions.specs.declared.variant.VariantDisposition.TheVariants.{Clear, Unclear}
use Rattle.variant_dispositions.specs.Readings.{IsTold}
use Rattle.variant_table.specs.declared.version.Version.TheVariants.{Three}
use Rattle.variant_table.specs.Entries.{Entry, TableValue}
use Rattle.variant_table.specs.WellFormed.{IsTable, IsWellFormed}
use Rattle.valid_labels.specs.Eligible.{IsCutEnd, IsEligible, IsLongest}
use Rattle.valid_labels.specs.declared.validity.Admission.TheVariants.{NotAdmitted}
use Rattle.variant_table.specs.Segmentations.{IsMadeOfSources, HasSegmentation, HasNoConditions, IsMadeOfReplacements}
use Rattle.valid_labels.specs.Dispositions.{IsClearItself, IsOwnDisposition, told_itself}
use Rattle.valid_labels.specs.Readings.{told_by}
use Rattle.valid_labels.specs.Testing.{IsAdmission}
use Rattle.valid_labels.specs.Validity.{IsSound, HasSourcesOfPoints, AsksCutsAlone, AsksNothing, IsAdmitted, IsValid}
use Rattle.valid_labels.specs.Validity.{IsDeadUnder}
use Rattle.valid_labels.specs.Tests as tests

-- longest first accepts no more labels than any cut; and the same where each source is one code point
pub record LongestFirst : Type 0 where
  pub no_more : (table : TableValue) (label : List ℕ) → IsEligible table label → HasSegmentation table label
  pub of_points : (table : TableValue) (label : List ℕ) → HasSourcesOfPoints table → HasSegmentation table label
      → IsEligible table label

-- a label has one longest-first cut: one source is the longest at a place, and the cut ends at one place, which is
-- told. A label is eligible exactly if that is its end
pub record OneCut : Type 0 where
  pub source : (table : TableValue) (label : List ℕ) (place : ℕ) (e f : Entry) → IsWellFormed table.entries
      → IsLongest table label place e → IsLongest table label place f → e ≡ f
  pub told : (table : TableValue) (label : List ℕ) (place : ℕ) → IsWellFormed table.entries →
      IsCutEnd table label place ↔ (place ≡ tests.cut_end table label)
  pub whole : (table : TableValue) (label : List ℕ) → IsWellFormed table.entries →
      IsEligible table label ↔ IsCutEnd table label (length label)

-- a label with a segmentation is made of sources, and where no source has a condition each label that is made of them
-- has one
pub record SegmentationsAgree : Type 0 where
  pub made : (table : TableValue) (label : List ℕ) → HasSegmentation table label → IsMadeOfSources table label
  pub free : (table : TableValue) (label : List ℕ) → HasNoConditions table → IsMadeOfSources table label
      → HasSegmentation table label

-- the tests that compute are true exactly where the definitions hold
pub record TestsAgree : Type 0 where
  pub made_of_sources : (table : TableValue) (label : List ℕ) → IsSound table
      → IsTrue (tests.is_made_of_sources table label) ↔ IsMadeOfSources table label
  pub eligible : (table : TableValue) (label : List ℕ) → IsSound table → IsTrue (tests.is_eligible table label)
      ↔ IsEligible table label
  pub admitted : (table : TableValue) (label : List ℕ) → IsSound table → IsTrue (tests.is_admitted table label)
      ↔ IsAdmitted table label
  pub valid : (table : TableValue) (label : List ℕ) → IsSound table → IsTrue (tests.is_valid table label)
      ↔ IsValid table label
  pub nothing : (table : TableValue) → IsWellFormed table.entries → IsTrue (tests.asks_nothing table)
      ↔ AsksNothing table
  pub dead : (table : TableValue) (label : List ℕ) → IsSound table → IsTrue (tests.is_dead_under table label)
      ↔ IsDeadUnder table label

-- what is dead stays so whatever follows, and is never valid
pub record DeadForGood : Type 0 where
  pub stays : (table : TableValue) (label more : List ℕ) → IsSound table → IsDeadUnder table label
      → IsDeadUnder table (label ++ more)
  pub invalid : (table : TableValue) (label more : List ℕ) → IsSound table → IsDeadUnder table label
      → ¬ IsValid table (label ++ more)

-- a label that may be asked about is valid, and can be cut into sources that may stand where they do;
-- it has one disposition
pub record AdmittedAreValid : Type 0 where
  pub valid : (table : TableValue) (label : List ℕ) → IsAdmitted table label → IsValid table label
  pub segmented : (table : TableValue) (label : List ℕ) → IsAdmitted table label → HasSegmentation table label
  pub one_disposition : (table : TableValue) (label : List ℕ) (d e : Disposition) → IsAdmitted table label
      → IsOwnDisposition table label d → IsOwnDisposition table label e → d ≡ e

-- where no source has a type, each label is clear
abbrev pub TypelessAreClear : Type 0
TypelessAreClear =
    (table : TableValue) (label : List ℕ) → IsWellFormed table.entries
    → AllByRecursion (λ e. e.type ≡ None) table.entries → IsClearItself table label

-- the table asks nothing of a label that is made of sources: nothing but how it is cut, and it is of version 1 or 2, or
-- each source is one code point
pub record AdmitsSources (table : TableValue) : Type 0 where
  pub cuts_alone : AsksCutsAlone table
  pub cuts : (table.version ≢ Three) ⊎ HasSourcesOfPoints table

-- under such a table a label of one code point or more may be asked about where it is made of sources, so none is
-- refused as not valid, and its disposition is valid. A table that asks nothing is such a table, and there a label is
-- valid where it is made of sources and variants. A table of version 1 or 2 asks nothing
pub record NothingIsAsked : Type 0 where
  pub admitted : (table : TableValue) (label : List ℕ) → IsWellFormed table.entries → AdmitsSources table → label ≢ []
      → IsMadeOfSources table label → IsAdmitted table label × IsOwnDisposition table label Valid
  pub never_invalid : (table : TableValue) (label : List ℕ) → IsWellFormed table.entries → AdmitsSources table
      → label ≢ [] → ¬ IsAdmission table label NotAdmitted
  pub of_sources : (table : TableValue) → AsksNothing table → AdmitsSources table
  pub valid : (table : TableValue) (label : List ℕ) → AsksNothing table → IsMadeOfReplacements table label
      → IsValid table label
  pub older : (table : TableValue) → IsTable table → table.version ≢ Three → AsksNothing table

-- what is told of a label by its readings is so, and there is something where it has one
abbrev pub ReadingsAreTold : Type 0
ReadingsAreTold =
    (matched : ℕ → Bool) (actions : List Action) (substitutions : List (List Substitution)) (v : List ℕ)
    (d : VariantDisposition) → AreSubstitutions substitutions →
    (told_by matched actions substitutions v ≡ Some d)
    ↔ (SubstitutionsSpell substitutions v × IsTold matched actions substitutions v d)

-- what is told of a label itself is so by its segmentations
pub record LabelsAreToldThemselves : Type 0 where
  pub unclear : (table : TableValue) (label : List ℕ) → IsSound table → (told_itself table label ≡ Some Unclear)
      ↔ (¬ IsClearItself table label)
  pub clear : (table : TableValue) (label : List ℕ) (d : Disposition) → IsSound table
      → (told_itself table label ≡ Some (Clear d)) ↔ (IsClearItself table label × IsOwnDisposition table label d)
  pub segmented : (table : TableValue) (label : List ℕ) → IsSound table → (told_itself table label ≡ None)
      ↔ (¬ HasSegmentation table label)
