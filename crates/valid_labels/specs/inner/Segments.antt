-- What is cached of the sources of a table.
use Rattle.std.specs.Prelude.{◌≡◌, ◌⊎◌, ℕ, ◌≤◌, List, length, Option}
use Rattle.label_patterns.specs.declared.condition.Condition.{Condition}
use Rattle.variant_table.specs.Entries.{TableValue}
use Rattle.valid_labels.specs.Segments.{IsSegment}
use Rattle.valid_labels.specs.Validity.{AsksNothing}

-- no source has more code points, and one has so many, if there is one
pub record IsMost (table : TableValue) (longest : ℕ) : Type 0 where
  pub most : (s : List ℕ) (c : Option Condition) → IsSegment table s c → length s ≤ longest
  pub one : (longest ≡ 0) ⊎ ((s : List ℕ) × ((c : Option Condition) × IsSegment table s c × (length s ≡ longest)))

-- how long the longest source is; and the table asks something of its labels
pub record AreSegments (table : TableValue) (most : ℕ) : Type 0 where
  pub longest : IsMost table most
  pub short : most ≤ 8
  pub asks : ¬ AsksNothing table
