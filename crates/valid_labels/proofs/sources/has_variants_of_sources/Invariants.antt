use Rattle.std.proofs.Common.{take}
use Rattle.std.specs.List.{AllByRecursion}
use Rattle.variant_table.specs.Entries.{sequences_in}
use Rattle.variant_table.specs.Segmentations.{IsMadeOfSources}
use Rattle.valid_labels.proofs.sources.has_variants_of_sources.Given as goal

-- the variants so far are made of sources
abbrev pub invariant-loop-number : goal.invariant-loop-number
invariant-loop-number l = AllByRecursion (IsMadeOfSources l.table) (take l.number (sequences_in l.entry.variants))
