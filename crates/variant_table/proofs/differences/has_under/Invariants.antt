use Rattle.std.proofs.Common.{◌≡◌, ◌-◌, ◌&&◌, drop}
use Rattle.std.specs.Prelude.{bytes_eq}
use Rattle.std.specs.List.{list_any}
use Rattle.variant_table.specs.Differences.{has_under, is_same_condition}
use Rattle.variant_table.proofs.differences.has_under.Given as goal

-- one that passes is still to be found
abbrev pub invariant-loop-number : goal.invariant-loop-number
invariant-loop-number l =
    list_any (λ x. bytes_eq l.variant x.sequence && is_same_condition l.condition x.condition) (drop (l.number - 1) l.entry.variants) ≡ has_under l.variant l.condition l.entry
