use Rattle.std.proofs.Common.{◌≡◌, ◌+◌, ◌-◌, ◌≤◌, length}
use Rattle.variant_table.specs.Entries.{entry_from, source_of}
use Rattle.variant_table.specs.inner.ReadingSteps.{with_new_sources}
use Rattle.variant_table.proofs.RangeLemmas.{points_from}
use Rattle.variant_table.proofs.reading.push_points.Given as goal

-- the entries that are left are added to those so far
abbrev pub invariant-loop-offset : goal.invariant-loop-offset
invariant-loop-offset l = record {
  same : with_new_sources l.entries (points_from (source_of (entry_from l.range)) (l.first + l.offset) (l.count - l.offset)) ≡ with_new_sources l.fn.entries (points_from (source_of (entry_from l.range)) l.first l.count);
  room : length l.entries + (l.count - l.offset) ≤ 65536;
}
