use Rattle.std.proofs.Common.{◌≡◌, ◌++◌}
use Rattle.lgr_table.specs.Tables.{may_stand}
use Rattle.lgr_table.specs.inner.Points.{spans_of}
use Rattle.lgr_table.proofs.EntryLemmas.{singles}
use Rattle.lgr_table.proofs.points.push_range.Given as goal

-- the code points before this one
abbrev pub invariant-loop-offset : goal.invariant-loop-offset
invariant-loop-offset l =
    l.spans.items ≡ l.initial.spans.items ++ spans_of (may_stand l.properties) (singles l.fn.span.first l.offset)
