use Rattle.std.proofs.Common.{◌≡◌, ◌-◌, take}
use Rattle.std.specs.List.{flat_map}
use Rattle.variant_table.specs.Gaps.{pairs_of, inserted, gaps_through}
use Rattle.variant_table.specs.Entries.{sequences_in}
use Rattle.variant_table.proofs.gaps.add_gaps_of_entry.Given as goal

-- what the variants so far ask for
abbrev pub invariant-loop-number : goal.invariant-loop-number
invariant-loop-number l = pairs_of l.gaps.keys ≡ inserted (pairs_of l.fn.gaps.keys) (flat_map (gaps_through l.entries l.entry) (take (l.number - 1) (sequences_in l.entry.variants)))
