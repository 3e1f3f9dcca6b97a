use Rattle.std.proofs.Common.{◌≡◌, ◌-◌, take, false}
use Rattle.std.specs.Prelude.{bytes_eq}
use Rattle.std.specs.List.{list_any}
use Rattle.variant_table.specs.Entries.{sequences_in}
use Rattle.variant_table.proofs.entry.Entry.has_variant.Given as goal

-- none of the variants so far
abbrev pub invariant-loop-number : goal.invariant-loop-number
invariant-loop-number l = list_any (bytes_eq l.sequence) (take (l.number - 1) (sequences_in l.self.variants)) ≡ false
