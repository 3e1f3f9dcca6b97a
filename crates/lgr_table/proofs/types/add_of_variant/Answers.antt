use Rattle.std.proofs.Common.{◌≡◌, ◌∷◌, [], ◌++◌, false, ap, subst, sym, ◌∙◌}
use Rattle.std.specs.Prelude.{IfErr}
use Rattle.lgr_text.specs.Records.{variant}
use Rattle.lgr_table.specs.Numbers.{if_some, variant_type}
use Rattle.lgr_table.specs.inner.TypeSteps.{TellsTypes}
use Rattle.lgr_table.proofs.types.add_of_variant.Goals as goal

pub returns-in-Some-clause-fault : goal.returns-in-Some-clause-fault
returns-in-Some-clause-fault c = λ names are.
    let same : variant_type (variant c.args.variant.now) ≡ c.as_slice.result.now ∷ [] =
    ap if_some c.in-Some.is ∙ ap (λ n. n ∷ []) (sym c.as_slice.ensures) in
    subst (λ l. IfErr c.add_named.result (TellsTypes false (names ++ l))) (sym same) (c.add_named.ensures.fault names are)
