use Rattle.std.proofs.Common.{◌≡◌, [], take}
use Rattle.std.specs.List.{flat_map}
use Rattle.variant_table.specs.Gaps.{pairs_of, inserted, gaps_of_entry}
use Rattle.variant_table.proofs.gaps.gaps_in_order.Given as goal

-- the gaps that the entries so far ask for
abbrev pub invariant-loop-number : goal.invariant-loop-number
invariant-loop-number l = pairs_of l.gaps.keys ≡ inserted [] (flat_map (gaps_of_entry l.entries) (take l.number l.entries))
