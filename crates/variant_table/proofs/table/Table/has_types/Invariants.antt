use Rattle.std.proofs.Common.{◌≡◌, drop}
use Rattle.variant_table.specs.Entries.{has_types}
use Rattle.variant_table.proofs.table.Table.has_types.Given as goal

-- a type is still to be found
abbrev pub invariant-loop-index : goal.invariant-loop-index
invariant-loop-index l = has_types (drop l.index l.self-inside.entries) ≡ has_types l.self-inside.entries
