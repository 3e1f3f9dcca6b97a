use Rattle.std.proofs.Common.{◌+◌, ◌<◌, arith, length, map, subst, sym, take}
use Rattle.lgr_text.specs.Known.{HaveSpans}
use Rattle.lgr_text.specs.Records.{entry}
use Rattle.lgr_table.specs.Faults.{IsFaultOfTable}
use Rattle.lgr_table.proofs.SourceLemmas.{points-twice, ranged, ranged-step}
use Rattle.lgr_table.proofs.entries.check_ranges.Goals as goal

pub returns-then-more-left : goal.returns-then-more-left
returns-then-more-left c = λ may r same spans.
    let xs = c.args.entries.now in
    let i = c.loop-entry.entry-index in
    let this = c.entry-item.result in
    let formed : HaveSpans (map entry xs) = subst (λ l. HaveSpans (map entry l)) same spans in
    let more : 0x110000 < length (ranged (map entry (take (i + 1) xs))) =
    omega (arith, c.loop-entry.invariant formed, ranged-step xs i this c.loop-entry-test.true c.entry-item.is formed, c.points_of_range-more.ensures) in
    subst (IsFaultOfTable may r) (sym c.on.ensures) (points-twice r xs i this same c.loop-entry-test.true c.entry-item.is formed more)

pub loop-entry-preserved : goal.loop-entry-preserved
loop-entry-preserved c = λ formed.
    omega (arith, c.loop-entry.invariant formed, ranged-step c.args.entries.now c.loop-entry.entry-index c.entry-item.result c.loop-entry-test.true c.entry-item.is formed, c.points_of_range-more.ensures)
