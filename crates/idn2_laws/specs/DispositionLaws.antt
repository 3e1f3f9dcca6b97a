-- Laws of the dispositions of what a label spells.
use Rattle.std.specs.Prelude.{◌≡◌, ◌≢◌, ◌↔◌, ℕ, false, List, [], Option, Some, None, Contains}
use Rattle.variant_dispositions.specs.declared.disposition.Disposition.{Disposition as Outcome}
use Rattle.variant_dispositions.specs.Kinds.Kind.{Typed}
use Rattle.variant_table.specs.declared.version.Version.TheVariants.{One, Two, Three}
use Rattle.variant_table.specs.Entries.{TableValue, has_types}
use Rattle.variant_table.specs.Segmentations.{HasSegmentation}
use Rattle.variant_table.specs.WellFormed.{IsTable}
use Rattle.valid_labels.specs.Validity.{IsSound}
use Rattle.variant_list.specs.Readings.{Mapping, IsReadingOf, kinds_of}
use Rattle.variant_list.specs.Spelling.{Spells}
use Rattle.answer_json.specs.declared.block.Disposition.{Disposition}
use Rattle.answer_json.specs.declared.block.Disposition.TheVariants.{Allocatable}
use Rattle.idn2_answers.specs.Dispositions.{HasOutcome, IsAllocatable, IsClear, IsDisposition, IsReadingFor}
use Rattle.idn2_answers.specs.Dispositions.{disposition}

-- what is told of a variant is its disposition, and it has no other one; version 1 has none. In version 2 it is
-- allocatable exactly where some reading lacks blocked, and so is the label itself
pub record DispositionsAreTold : Type 0 where
  pub told : (table : TableValue) (label v : List ℕ) → IsSound table → v ≢ [] → Spells table label v →
      IsDisposition table label v (disposition table label v)
  pub one : (table : TableValue) (label v : List ℕ) (field other : Option Disposition) →
      IsDisposition table label v field → IsDisposition table label v other → field ≡ other
  pub unstated : (table : TableValue) (label v : List ℕ) → table.version ≡ One → disposition table label v ≡ None
  pub some_reading : (table : TableValue) (label v : List ℕ) → IsTable table → table.version ≡ Two →
      HasSegmentation table label → IsAllocatable table label v
      ↔ ((reading : List Mapping) × IsReadingOf table label v reading × ¬ Contains (kinds_of reading) (Typed 1))
  pub itself : (table : TableValue) (label : List ℕ) → table.version ≡ Two →
      disposition table label label ≡ Some Allocatable

-- what a label spells has a disposition by some reading, and where it is clear all readings give the same one
pub record ReadingsDecide : Type 0 where
  pub some : (table : TableValue) (label v : List ℕ) → IsSound table → Spells table label v →
      (d : Outcome) × HasOutcome table label v d
  pub one : (table : TableValue) (label v : List ℕ) (d other : Outcome) → IsSound table → v ≢ [] →
      IsClear table label v → HasOutcome table label v d → HasOutcome table label v other → d ≡ other

-- under a ruleset without types nothing is unclear, and all readings give the same disposition, so that rules alone
-- decide; and without actions each variant may be had
pub record RulesAloneDecide : Type 0 where
  pub clear : (table : TableValue) (label v : List ℕ) → has_types table.entries ≡ false → IsClear table label v
  pub same : (table : TableValue) (label v : List ℕ) (d other : Outcome) → IsSound table → v ≢ [] →
      has_types table.entries ≡ false → HasOutcome table label v d → HasOutcome table label v other → d ≡ other
  pub free : (table : TableValue) (label v : List ℕ) → IsSound table → v ≢ [] → table.version ≡ Three →
      has_types table.entries ≡ false → table.definitions.actions ≡ [] →
      Spells table label v → IsAllocatable table label v

-- under a ruleset without actions nobody may have what a variant of the type blocked, number 1, is a part of, by some
-- reading
abbrev pub BlockedBlocks : Type 0
BlockedBlocks = (table : TableValue) (label v : List ℕ) (reading : List Mapping) → table.version ≡ Three →
    table.definitions.actions ≡ [] →
    IsReadingFor table label v reading → Contains (kinds_of reading) (Typed 1) → ¬ IsAllocatable table label v
