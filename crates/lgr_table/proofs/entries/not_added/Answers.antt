use Rattle.std.proofs.Common.{subst}
use Rattle.lgr_table.specs.inner.FaultSteps.{TellsRepeated}
use Rattle.lgr_table.proofs.VariantLemmas.{repeated-told}
use Rattle.lgr_table.proofs.entries.not_added.Goals as goal

pub returns-in-SameVariant : goal.returns-in-SameVariant
returns-in-SameVariant c =
    repeated-told c.args.entry.now c.args.fault c.of_repeated.result
    (subst (λ l. TellsRepeated l c.of_repeated.result) c.deref.ensures.value c.of_repeated.ensures)
