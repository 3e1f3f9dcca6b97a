use Rattle.std.proofs.Common.{◌≡◌, ◌+◌, length, map, take}
use Rattle.lgr_text.specs.Known.{HaveSpans}
use Rattle.lgr_text.specs.Records.{entry}
use Rattle.lgr_table.proofs.SourceLemmas.{ranged}
use Rattle.lgr_table.proofs.entries.check_ranges.Given as goal

-- the code points of the ranges before this one, and those that are left
abbrev pub invariant-loop-entry : goal.invariant-loop-entry
invariant-loop-entry l =
    HaveSpans (map entry l.entries) → l.left + length (ranged (map entry (take l.entry-index l.entries))) ≡ 0x110000
