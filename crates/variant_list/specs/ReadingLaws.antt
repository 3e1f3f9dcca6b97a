-- Laws of the readings of a label.
use Rattle.std.specs.Prelude.{◌≡◌, ◌≢◌, ◌↔◌, ◌<◌, ℕ, Bool, List, [], All, AllPairs, Contains}
use Rattle.std.specs.Int.{bit_at}
use Rattle.reading_kinds.specs.Readings.{Substitution, IsReading}
use Rattle.variant_dispositions.specs.Kinds.{Kind, kind_at, recorded}
use Rattle.variant_dispositions.specs.Readings.{AreWordsOf, IsClear, IsAllocatableInSome}
use Rattle.variant_table.specs.declared.version.Version.TheVariants.{Two}
use Rattle.variant_table.specs.Entries.{TableValue}
use Rattle.variant_table.specs.WellFormed.{IsTable, IsWellFormed}
use Rattle.variant_list.specs.Laws.{IsOfPoints, VariantsHaveNoConditions}
use Rattle.variant_list.specs.Readings.{Mapping, IsReadingOf, IsClearVariant, kinds_of}
use Rattle.variant_list.specs.Spelling.{Spells}
use Rattle.variant_list.specs.Substitutions.{substitutions_of}
use Rattle.variant_list.specs.RulesetLaws.{as_ruleset}

-- v is read in this way, and these kinds are recorded: by the entries of the table, and by the substitutions of the
-- label
abbrev pub RecordsByEntries : TableValue → List ℕ → List ℕ → List Kind → Type 0
RecordsByEntries table label v kinds =
    (reading : List Mapping) × IsReadingOf table label v reading × (kinds_of reading ≡ kinds)

abbrev pub RecordsBySubstitutions : TableValue → List ℕ → List ℕ → List Kind → Type 0
RecordsBySubstitutions table label v kinds =
    (reading : List Substitution) × IsReading (substitutions_of table label) v reading × (recorded reading ≡ kinds)

-- a label spells what it has a reading of; the substitutions of a label have the readings that it has under the table,
-- which record the same; and so a variant is clear by the ones where it is by the others
pub record ReadingsAgree : Type 0 where
  pub spelled : (table : TableValue) (label v : List ℕ) →
      Spells table label v ↔ ((reading : List Mapping) × IsReadingOf table label v reading)
  pub record_the_same : (table : TableValue) (label v : List ℕ) (kinds : List Kind) → IsTable table →
      RecordsByEntries table label v kinds ↔ RecordsBySubstitutions table label v kinds
  pub clear : (table : TableValue) (label v : List ℕ) → IsTable table →
      IsClearVariant table label v ↔ IsClear (substitutions_of table label) v

-- of the two words of a variant the first has the bit of a kind exactly if some reading records it, and the second
-- exactly if some reading doesn't; the variant is clear exactly if no bit is in both, and then the first word is what
-- each reading records
pub record WordsTellReadings : Type 0 where
  pub has : (table : TableValue) (label v : List ℕ) (has lacks k : ℕ) → IsTable table →
      AreWordsOf (substitutions_of table label) v has lacks → k < 64 →
      (bit_at has k ≡ 1)
      ↔ ((reading : List Mapping) × IsReadingOf table label v reading × Contains (kinds_of reading) (kind_at k))
  pub lacks : (table : TableValue) (label v : List ℕ) (has lacks k : ℕ) → IsTable table →
      AreWordsOf (substitutions_of table label) v has lacks → k < 64 →
      (bit_at lacks k ≡ 1)
      ↔ ((reading : List Mapping) × IsReadingOf table label v reading × ¬ Contains (kinds_of reading) (kind_at k))
  pub clear : (table : TableValue) (label v : List ℕ) (has lacks : ℕ) → IsTable table →
      AreWordsOf (substitutions_of table label) v has lacks →
      IsClearVariant table label v ↔ ((k : ℕ) → k < 64 → bit_at has k ≡ 1 → ¬ (bit_at lacks k ≡ 1))
  pub each : (table : TableValue) (label v : List ℕ) (has lacks k : ℕ) (reading : List Mapping) → IsTable table →
      AreWordsOf (substitutions_of table label) v has lacks → k < 64 → IsClearVariant table label v →
      IsReadingOf table label v reading → (bit_at has k ≡ 1) ↔ Contains (kinds_of reading) (kind_at k)

-- no entry has a variant twice
abbrev pub HasNoVariantTwice : TableValue → Type 0
HasNoVariantTwice table = All (λ e. AllPairs (λ v w. v.sequence ≢ w.sequence) e.variants) table.entries

-- where each source and variant is one code point, and no entry has a variant twice, there is one reading at most, and
-- so each variant is clear; and where variants have no conditions, no entry has one twice
pub record PointsAreReadOnce : Type 0 where
  pub once : (table : TableValue) (label v : List ℕ) (one other : List Mapping) → IsWellFormed table.entries →
      IsOfPoints table → HasNoVariantTwice table →
      IsReadingOf table label v one → IsReadingOf table label v other → one ≡ other
  pub clear : (table : TableValue) (label v : List ℕ) → IsWellFormed table.entries → IsOfPoints table →
      HasNoVariantTwice table → IsClearVariant table label v
  pub not_twice : (table : TableValue) → IsWellFormed table.entries → VariantsHaveNoConditions table →
      HasNoVariantTwice table

-- a table of version 2 in which each source and variant is one code point lets the holder have the same labels as a
-- ruleset: by some reading there, and here as a clear variant
abbrev pub RulesetsAllocateTheSame : Type 0
RulesetsAllocateTheSame =
    (matched : ℕ → Bool) (table : TableValue) (label v : List ℕ) → IsTable table → table.version ≡ Two →
    IsOfPoints table →
    IsAllocatableInSome matched [] (substitutions_of table label) v
    ↔ (IsClear (substitutions_of (as_ruleset table) label) v
    × IsAllocatableInSome matched [] (substitutions_of (as_ruleset table) label) v)
