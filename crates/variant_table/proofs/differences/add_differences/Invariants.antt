use Rattle.std.proofs.Common.{◌≡◌, ◌-◌, take}
use Rattle.std.specs.List.{flat_map}
use Rattle.variant_table.specs.Gaps.{pairs_of, inserted}
use Rattle.variant_table.specs.Differences.{difference_at}
use Rattle.variant_table.specs.Entries.{sequences_in}
use Rattle.variant_table.proofs.differences.add_differences.Given as goal

-- the differences of the variants so far
abbrev pub invariant-loop-number : goal.invariant-loop-number
invariant-loop-number l = pairs_of l.found.keys ≡ inserted (pairs_of l.fn.found.keys) (flat_map (difference_at l.entries l.entry) (take (l.number - 1) (sequences_in l.entry.variants)))
