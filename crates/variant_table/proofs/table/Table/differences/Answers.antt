use Rattle.std.proofs.Common.{subst}
use Rattle.std.specs.Prelude.{IfOk}
use Rattle.variant_table.specs.Gaps.{pairs_of}
use Rattle.variant_table.specs.Differences.{AreDifferencesOf}
use Rattle.variant_table.proofs.DifferenceLemmas.{differences_result}
use Rattle.variant_table.proofs.table.Table.differences.Goals as goal

pub returns-clause-differences : goal.returns-clause-differences
returns-clause-differences c =
    subst (λ t. IfOk c.differences_in_order.result (λ pairs. AreDifferencesOf t.entries (pairs_of pairs.items))) c.self.view_is
    (differences_result c.self.inside.entries c.self.invariant.well_formed c.differences_in_order.result c.differences_in_order.ensures.differences c.differences_in_order.ensures.rising)
