use Rattle.std.proofs.Common.{◌<◌, length, arith, rules}
use Rattle.ruleset_text.specs.Entries.{Mapped}
use Rattle.ruleset_text.specs.EntryForms.{mapped}
use Rattle.variant_table.specs.Canonical.{written_text}
use Rattle.variant_table.proofs.LengthLemmas.{range_lines, range_lines_left}
use Rattle.variant_table.proofs.lengths.left_after_points.Goals as goal

pub loop-offset-preserved : goal.loop-offset-preserved
loop-offset-preserved c =
    let m : Mapped = mapped c.args.source.now in
    let next = range_lines_left m c.args.first c.args.count c.loop-offset.offset c.loop-offset-test.true in
    omega (arith, next, c.in_ok-rest.ensures, c.loop-offset.invariant)

pub returns-in_err-rest : goal.returns-in_err-rest
returns-in_err-rest c =
    let m : Mapped = mapped c.args.source.now in
    let next = range_lines_left m c.args.first c.args.count c.loop-offset.offset c.loop-offset-test.true in
    let over : c.args.left < length (written_text (range_lines m c.args.first c.args.count)) = omega (arith, next, c.in_err-rest.ensures, c.loop-offset.invariant) in
    search rules
