use Rattle.std.proofs.Common.{◌≡◌, ◌+◌, ◌-◌, length}
use Rattle.ruleset_text.specs.EntryForms.{mapped}
use Rattle.variant_table.specs.Canonical.{written_text}
use Rattle.variant_table.proofs.LengthLemmas.{range_lines}
use Rattle.variant_table.proofs.lengths.left_after_points.Given as goal

-- the bytes that are left, and those of the lines that are left
abbrev pub invariant-loop-offset : goal.invariant-loop-offset
invariant-loop-offset l =
    l.rest + length (written_text (range_lines (mapped l.source) l.first l.count)) ≡ l.left + length (written_text (range_lines (mapped l.source) (l.first + l.offset) (l.count - l.offset)))
