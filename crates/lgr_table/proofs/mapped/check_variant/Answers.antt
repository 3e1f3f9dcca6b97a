use Rattle.std.proofs.Common.{inl, inr, refl, subst, sym, ◌∙◌}
use Rattle.lgr_table.specs.inner.FaultSteps.{TellsReflexive}
use Rattle.lgr_table.proofs.VariantLemmas.{some-asks}
use Rattle.lgr_table.proofs.mapped.check_variant.Goals as goal

pub returns-then-found-clause-fault : goal.returns-then-found-clause-fault
returns-then-found-clause-fault c =
    subst (TellsReflexive c.args.source.now c.args.variant.now c.args.found) (sym c.on.ensures)
    (refl, sym c.is_reflexive.ensures ∙ c.if-not-is_reflexive.false, inl c.if-found.true)

pub returns-in-Some-clause-fault : goal.returns-in-Some-clause-fault
returns-in-Some-clause-fault c =
    subst (TellsReflexive c.args.source.now c.args.variant.now c.args.found) (sym c.on-in-Some.ensures)
    (refl, sym c.is_reflexive.ensures ∙ c.if-not-is_reflexive.false, inr (some-asks c.args.variant.now.condition _ c.in-Some.is))
