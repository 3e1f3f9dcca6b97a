use Rattle.std.proofs.Common.{◌≡◌, take}
use Rattle.variant_table.specs.Canonical.{table_text}
use Rattle.variant_table.proofs.table.Table.write_table.Given as goal

-- the entries so far
abbrev pub invariant-loop-number : goal.invariant-loop-number
invariant-loop-number l = l.text.items ≡ table_text l.self-inside.version l.self-inside.definitions (take l.number l.self-inside.entries)
