-- Labels that are variants of each other have the same variants.
use Rattle.std.specs.Prelude.{◌≡◌, ◌↔◌, ℕ, Bool, IsTrue, List, [], Contains}
use Rattle.std.specs.List.{slice_get}
use Rattle.variant_table.specs.Entries.{TableValue}
use Rattle.variant_table.specs.WellFormed.{IsWellFormed}
use Rattle.variant_table.specs.Gaps.{AreGapsOf}
use Rattle.variant_table.specs.Segmentations.{HasSegmentation}
use Rattle.variant_list.specs.Labels.{IsBelow}
use Rattle.variant_list.specs.Laws.{IsOfPoints, VariantsHaveNoConditions}
use Rattle.variant_list.specs.Variants.{AreVariants}

-- the table has no gap, each source and variant is one code point, and no variant has a condition
pub record IsMutual (table : TableValue) : Type 0 where
  pub well_formed : IsWellFormed table.entries
  pub gaps : AreGapsOf table.entries []
  pub points : IsOfPoints table
  pub free : VariantsHaveNoConditions table

-- a label that is accepted, has a segmentation and is greater than the text: it is among its own variants
pub record IsAsked (accepts : List ℕ → Bool) (table : TableValue) (after label : List ℕ) : Type 0 where
  pub accepted : IsTrue (accepts label)
  pub cut : HasSegmentation table label
  pub greater : IsBelow after label

-- of two such labels one is a variant of the other exactly where they have the same variants, and exactly where the
-- least one is the same: vs are the variants of the label, and ws those of the other one
abbrev pub VariantsAreMutual : Type 0
VariantsAreMutual =
    (accepts : List ℕ → Bool) (table : TableValue) (after label other : List ℕ) (vs ws : List (List ℕ)) →
    IsMutual table → IsAsked accepts table after label → IsAsked accepts table after other →
    AreVariants accepts table label after vs → AreVariants accepts table other after ws →
    (Contains vs other ↔ (vs ≡ ws)) × (Contains vs other ↔ (slice_get vs 0 ≡ slice_get ws 0))
