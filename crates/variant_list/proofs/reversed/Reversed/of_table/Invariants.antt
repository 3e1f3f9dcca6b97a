use Rattle.variant_list.specs.inner.Turned.{groups_of, AreOfFirst, AreSound}
use Rattle.variant_list.proofs.reversed.Reversed.of_table.Given as goal

-- the pairs of the entries so far
abbrev pub invariant-loop-number : goal.invariant-loop-number
invariant-loop-number l = AreSound (groups_of l.sources.entries) × AreOfFirst l.table.entries l.number (groups_of l.sources.entries)
