use Rattle.std.proofs.Common.{◌≡◌, drop}
use Rattle.std.specs.Prelude.{is_some}
use Rattle.std.specs.List.{list_any}
use Rattle.variant_table.specs.Entries.{whole}
use Rattle.variant_table.proofs.entry.Entry.has_types.Given as goal

-- a type is still to be found
abbrev pub invariant-loop-number : goal.invariant-loop-number
invariant-loop-number l = list_any (λ v. is_some v.type) (drop l.number (whole l.self)) ≡ list_any (λ v. is_some v.type) (whole l.self)
