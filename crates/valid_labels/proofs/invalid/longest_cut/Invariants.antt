use Rattle.std.proofs.Common.{◌≡◌, ◌≤◌, ◌++◌, ◌-◌, length}
use Rattle.std.specs.List.{AllByRecursion}
use Rattle.variant_dispositions.specs.Kinds.{IsTypeNumber}
use Rattle.valid_labels.specs.declared.invalid.CutSource.{CutSource}
use Rattle.valid_labels.specs.Causes.{cut_from, longest_cut as cut_of}
use Rattle.valid_labels.proofs.invalid.longest_cut.Given as goal

-- with those from the place on they are all; their types have numbers
abbrev pub invariant-loop : goal.invariant-loop
invariant-loop l = record {
  within : l.place ≤ length l.label;
  taken : l.sources.items ++ cut_from l.table l.label (length l.label - l.counter) l.place ≡ cut_of l.table l.label;
  types : AllByRecursion (λ (s : CutSource). IsTypeNumber s.reflexive_type) l.sources.items;
}
