use Rattle.std.proofs.Common.{◌-◌}
use Rattle.variant_list.specs.inner.Turned.{groups_of, AreSound, Adds, TurnsUpTo}
use Rattle.variant_list.proofs.reversed.add_entry.Given as goal

-- the pairs of the variants so far
abbrev pub invariant-loop-number : goal.invariant-loop-number
invariant-loop-number l = AreSound (groups_of l.sources.entries) × Adds (groups_of l.fn.sources.entries) (groups_of l.sources.entries) (TurnsUpTo l.table.entries l.entry (l.number - 1))
