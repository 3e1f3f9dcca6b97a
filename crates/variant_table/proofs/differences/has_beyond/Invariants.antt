use Rattle.std.proofs.Common.{◌≡◌, ◌-◌, ◌&&◌, drop, not}
use Rattle.std.specs.Prelude.{bytes_eq}
use Rattle.std.specs.List.{list_any}
use Rattle.variant_table.specs.Differences.{has_beyond, has_under}
use Rattle.variant_table.proofs.differences.has_beyond.Given as goal

-- one that passes is still to be found
abbrev pub invariant-loop-number : goal.invariant-loop-number
invariant-loop-number l =
    list_any (λ x. bytes_eq l.variant x.sequence && not (has_under l.reverse x.condition l.other)) (drop (l.number - 1) l.entry.variants) ≡ has_beyond l.entry l.variant l.other l.reverse
