use Rattle.std.proofs.Common.{◌≡◌, ◌-◌, take}
use Rattle.std.specs.List.{flat_map}
use Rattle.variant_table.specs.Gaps.{pairs_of, inserted, wanted_gap}
use Rattle.variant_table.specs.Entries.{sequences_in}
use Rattle.variant_table.proofs.gaps.add_further.Given as goal

-- the pairs with the variants so far
abbrev pub invariant-loop-number : goal.invariant-loop-number
invariant-loop-number l = pairs_of l.gaps.keys ≡ inserted (pairs_of l.fn.gaps.keys) (flat_map (wanted_gap l.entry) (take (l.number - 1) (sequences_in l.next.variants)))
