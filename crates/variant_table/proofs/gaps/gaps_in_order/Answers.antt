use Rattle.std.proofs.Common.{[], ap, ◌∙◌, List}
use Rattle.variant_table.specs.Entries.{Entry}
use Rattle.variant_table.specs.Gaps.{inserted, gaps_of_entry}
use Rattle.variant_table.proofs.GapLemmas.{inserted_more}
use Rattle.variant_table.proofs.gaps.gaps_in_order.Goals as goal

pub loop-number-preserved : goal.loop-number-preserved
loop-number-preserved c =
    let t : List Entry = c.args.entries.now in
    c.in_ok-add_gaps_of_entry.ensures ∙ ap (λ ps. inserted ps (gaps_of_entry t c.get.result)) c.loop-number.invariant
    ∙ inserted_more (gaps_of_entry t) t c.loop-number.number c.get.result [] c.get.ensures
