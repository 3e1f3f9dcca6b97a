-- What is asked of a source where a label is cut.
use Rattle.std.specs.Prelude.{ℕ, Bool, true, List}
use Rattle.variant_table.specs.Entries.{Entry, TableValue}
use Rattle.variant_list.specs.declared.substitutions.Cuts.{Cuts}
use Rattle.variant_list.specs.declared.substitutions.Cuts.TheVariants.{Segmentations, Anyhow}
use Rattle.variant_table.specs.Staying.{may_stand}

-- whether the entry may be in a cut of this kind, with its source at the place of the label
abbrev pub stands_by : Cuts → TableValue → List ℕ → ℕ → Entry → Bool
stands_by Segmentations table label place e = may_stand table label place e
stands_by Anyhow table label place e = true
