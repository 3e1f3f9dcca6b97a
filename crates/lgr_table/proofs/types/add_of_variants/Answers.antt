use Rattle.std.proofs.Common.{ℕ, ◌+◌, ◌++◌, false, List, map, take, ap, subst}
use Rattle.std.specs.List.{flat_map}
use Rattle.std.proofs.lemmas.List.{take_all}
use Rattle.std.proofs.lemmas.Result.{err_from_is_err_and}
use Rattle.lgr_text.specs.Records.{variant}
use Rattle.lgr_table.specs.Numbers.{variant_type}
use Rattle.lgr_table.specs.inner.TypeSteps.{AreTypes, TellsTypes}
use Rattle.lgr_table.proofs.TypeLemmas.{pieces-in, pieces-more, tells-more}
use Rattle.lgr_table.proofs.types.add_of_variants.Goals as goal

pub loop-variant-preserved : goal.loop-variant-preserved
loop-variant-preserved c =
    let vs = c.args.variants.now in
    let i = c.loop-variant.variant-index in
    λ names has.
    subst (λ (l : List (List ℕ)). AreTypes false l c.add_of_variant.new.types.items)
    (pieces-more variant_type variant names vs i c.variant-item.result c.loop-variant-test.true c.variant-item.is)
    (c.in_ok-add_of_variant.ensures.types (names ++ flat_map variant_type (map variant (take i vs))) (c.loop-variant.invariant names has))

pub returns-clause-types : goal.returns-clause-types
returns-clause-types c = λ names has.
    subst (λ (l : List (List ℕ)). AreTypes false l c.loop-variant.types.items)
    (ap (λ l. names ++ flat_map variant_type (map variant l)) (take_all c.loop-variant.variant-index c.args.variants.now c.loop-variant-test.false))
    (c.loop-variant.invariant names has)

pub returns-in_err-add_of_variant-clause-fault : goal.returns-in_err-add_of_variant-clause-fault
returns-in_err-add_of_variant-clause-fault c = λ names has.
    let p = err_from_is_err_and c.from_residual.result c.from_residual.ensures.1 in
    let vs = c.args.variants.now in
    let i = c.loop-variant.variant-index in
    let told = c.in_err-add_of_variant.field-0.0 in
    let next : TellsTypes false (names ++ flat_map variant_type (map variant (take (i + 1) vs))) told =
    subst (λ (l : List (List ℕ)). TellsTypes false l told)
    (pieces-more variant_type variant names vs i c.variant-item.result c.loop-variant-test.true c.variant-item.is)
    (c.in_err-add_of_variant.ensures.fault (names ++ flat_map variant_type (map variant (take i vs))) (c.loop-variant.invariant names has)) in
    rw (p.1, p.2) (tells-more false _ (names ++ flat_map variant_type (map variant vs)) told (pieces-in variant_type variant names vs (i + 1)) next)
