use Rattle.std.proofs.Common.{◌≤◌, length, subst}
use Rattle.std.specs.Prelude.{All}
use Rattle.variant_table.specs.Entries.{TableValue}
use Rattle.variant_table.specs.IdleTypes.{idle_types}
use Rattle.variant_table.proofs.IdleLemmas.{idle_types-short}
use Rattle.variant_table.proofs.table.Table.idle_types.Goals as goal

pub returns-clause-short : goal.returns-clause-short
returns-clause-short c =
    subst (λ (t : TableValue). All (λ name. length name ≤ 32) (idle_types t.definitions)) c.self.view_is
    (idle_types-short c.self.inside.definitions c.self.invariant.without_fault)
