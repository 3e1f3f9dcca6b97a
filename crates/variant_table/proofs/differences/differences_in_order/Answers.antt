use Rattle.std.proofs.Common.{[], ap, ◌∙◌, List}
use Rattle.variant_table.specs.Entries.{Entry}
use Rattle.variant_table.specs.Gaps.{inserted}
use Rattle.variant_table.specs.Differences.{differences_at}
use Rattle.variant_table.proofs.GapLemmas.{inserted_more}
use Rattle.variant_table.proofs.differences.differences_in_order.Goals as goal

pub loop-number-preserved : goal.loop-number-preserved
loop-number-preserved c =
    let t : List Entry = c.args.entries.now in
    c.in_ok-add_differences.ensures ∙ ap (λ ps. inserted ps (differences_at t c.get.result)) c.loop-number.invariant
    ∙ inserted_more (differences_at t) t c.loop-number.number c.get.result [] c.get.ensures
