use Rattle.std.proofs.Common.{◌≡◌, ◌≤◌, ◌*◌, length, take}
use Rattle.variant_table.proofs.WritingLemmas.{further_text}
use Rattle.variant_table.proofs.lengths.sequence_len.Given as goal

-- the code points so far, each with one byte more
abbrev pub invariant-loop-point : goal.invariant-loop-point
invariant-loop-point l = (l.len ≡ length (further_text (take l.point-index l.sequence))) × (l.len ≤ 7 * l.point-index)
