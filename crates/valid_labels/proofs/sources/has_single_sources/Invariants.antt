use Rattle.std.proofs.Common.{◌≡◌, length, take}
use Rattle.std.specs.List.{AllByRecursion}
use Rattle.variant_table.specs.Entries.{sequences_in}
use Rattle.variant_table.specs.Segmentations.{IsMadeOfSources}
use Rattle.valid_labels.proofs.sources.has_single_sources.Given as goal

-- so it is of the entries so far
abbrev pub invariant-loop-number : goal.invariant-loop-number
invariant-loop-number l = record {
  points : AllByRecursion (λ e. length e.source ≡ 1) (take l.number l.table.entries);
  made : AllByRecursion (λ e. AllByRecursion (IsMadeOfSources l.table) (sequences_in e.variants)) (take l.number l.table.entries);
}
