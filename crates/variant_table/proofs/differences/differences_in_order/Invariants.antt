use Rattle.std.proofs.Common.{◌≡◌, [], take}
use Rattle.std.specs.List.{flat_map}
use Rattle.variant_table.specs.Gaps.{pairs_of, inserted}
use Rattle.variant_table.specs.Differences.{differences_at}
use Rattle.variant_table.proofs.differences.differences_in_order.Given as goal

-- the differences of the entries so far
abbrev pub invariant-loop-number : goal.invariant-loop-number
invariant-loop-number l = pairs_of l.found.keys ≡ inserted [] (flat_map (differences_at l.entries) (take l.number l.entries))
