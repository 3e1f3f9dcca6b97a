-- What a label spells from one of its places on.
use Rattle.std.specs.Prelude.{◌≡◌, ℕ, List, drop, Contains}
use Rattle.std.specs.List.{flat_map, AllByRecursion}
use Rattle.variant_table.specs.Entries.{Entry, TableValue}
use Rattle.variant_table.specs.Segmentations.{AllHold, seen_under}
use Rattle.variant_list.specs.Spelling.{JoinsReplacements}

-- a segmentation of the label from the place on: entries whose sources, joined, are the rest of the label, and which
-- may stand there
pub record IsCutFrom (table : TableValue) (label : List ℕ) (place : ℕ) (segmentation : List Entry) : Type 0 where
  pub of_table : AllByRecursion (Contains table.entries) segmentation
  pub joined : flat_map (λ e. e.source) segmentation ≡ drop place label
  pub held : AllHold table.definitions.rules (seen_under table label) place segmentation

-- the code points of the label from the place on spell v
abbrev pub SpellsFrom : TableValue → List ℕ → ℕ → List ℕ → Type 0
SpellsFrom table label place v =
    (segmentation : List Entry) × IsCutFrom table label place segmentation
    × JoinsReplacements table label place segmentation v
