use Rattle.std.proofs.Common.{◌≡◌, ◌++◌, take, get_or}
use Rattle.variant_table.proofs.WritingLemmas.{further_text}
use Rattle.variant_table.proofs.canonical.write_sequence.Given as goal
use Rattle.ruleset_text.specs.Canonical.{point_text}

-- the points so far
abbrev pub invariant-loop-point : goal.invariant-loop-point
invariant-loop-point l = l.out.items ≡ point_text (get_or l.sequence 0 0) ++ further_text (take l.point-index l.others)
