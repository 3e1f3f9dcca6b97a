use Rattle.std.proofs.Common.{map, take}
use Rattle.valid_labels.proofs.MostLemmas.{IsMostOf}
use Rattle.valid_labels.proofs.segments.longest_source.Given as goal

-- the longest so far
abbrev pub invariant-loop-number : goal.invariant-loop-number
invariant-loop-number l = IsMostOf (map (λ e. e.source) (take l.number l.table.entries)) l.longest
