use Rattle.std.proofs.Common.{subst}
use Rattle.std.specs.Prelude.{IfOk}
use Rattle.variant_table.specs.Gaps.{AreGapsOf, pairs_of}
use Rattle.variant_table.proofs.GapLemmas.{gaps_result}
use Rattle.variant_table.proofs.table.Table.gaps.Goals as goal

pub returns-clause-gaps : goal.returns-clause-gaps
returns-clause-gaps c =
    subst (λ t. IfOk c.gaps_in_order.result (λ gaps. AreGapsOf t.entries (pairs_of gaps.items))) c.self.view_is
    (gaps_result c.self.inside.entries c.self.invariant.well_formed c.gaps_in_order.result c.gaps_in_order.ensures.gaps c.gaps_in_order.ensures.rising)
