use Rattle.std.proofs.Common.{◌≡◌, ◌+◌, ◌-◌, ◌∷◌, [], false, map, take}
use Rattle.std.specs.List.{list_any, range_with_len}
use Rattle.lgr_text.specs.Records.{variant}
use Rattle.lgr_table.specs.Tables.{may_stand}
use Rattle.lgr_table.proofs.KeptLemmas.{keeps_one}
use Rattle.lgr_table.proofs.untyped.is_kept_in_range.Given as goal

-- with none of the code points before this one
abbrev pub invariant-loop-offset : goal.invariant-loop-offset
invariant-loop-offset l =
    list_any (keeps_one (may_stand l.properties) l.wanted (variant l.variant))
    (map (λ p. p ∷ []) (take l.offset (range_with_len l.span.first (l.span.last + 1 - l.span.first)))) ≡ false
