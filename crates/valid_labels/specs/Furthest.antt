-- How far the sources of a table reach into a label (RFC 7940, section 8.1).
use Rattle.std.specs.Prelude.{◌≡◌, ◌↔◌, ℕ, zero, suc, ◌<◌, ◌≤◌, List, length, take, if◌then◌else◌}
use Rattle.variant_table.specs.Entries.{TableValue}
use Rattle.variant_table.specs.WellFormed.{IsWellFormed}
use Rattle.variant_table.specs.Segmentations.{IsMadeOfSources}
use Rattle.valid_labels.specs.Tests.{is_made_of_sources}

-- the greatest of these numbers of first code points of the label that are made of sources
abbrev pub furthest_within : TableValue → List ℕ → ℕ → ℕ
furthest_within table label zero = 0
furthest_within table label (suc count) =
    if is_made_of_sources table (take (suc count) label) then suc count else furthest_within table label count

-- how many of the first code points of the label are made of sources, at the most
unfoldable pub furthest : TableValue → List ℕ → ℕ
furthest table label = furthest_within table label (length label)

-- the same by what it has to be: so many first code points are made of sources, and no more of them are
pub record IsFurthest (table : TableValue) (label : List ℕ) (place : ℕ) : Type 0 where
  pub within : place ≤ length label
  pub reached : IsMadeOfSources table (take place label)
  pub greatest : (count : ℕ) → place < count → count ≤ length label → ¬ IsMadeOfSources table (take count label)

-- the place that is told is this one, which there is exactly once; where the label isn't made of sources,
-- it lies within the label
pub record FurthestIsTold : Type 0 where
  pub exactly : (table : TableValue) (label : List ℕ) (place : ℕ) → IsWellFormed table.entries
      → IsFurthest table label place ↔ (place ≡ furthest table label)
  pub within : (table : TableValue) (label : List ℕ) → IsWellFormed table.entries → ¬ IsMadeOfSources table label
      → furthest table label < length label
