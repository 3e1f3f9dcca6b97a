use Rattle.std.proofs.Common.{◌≡◌, ℕ, ◌+◌, ◌++◌, ◌∷◌, [], false, List, take, sym, ap, subst, ◌∙◌}
use Rattle.std.specs.Option.{option_map}
use Rattle.std.proofs.lemmas.List.{take_all}
use Rattle.std.proofs.lemmas.Result.{err_from_is_err_and}
use Rattle.lgr_text.specs.Records.{trigger}
use Rattle.lgr_table.specs.Numbers.{trigger_types}
use Rattle.lgr_table.specs.inner.TypeSteps.{AreTypes, TellsTypes}
use Rattle.lgr_table.proofs.TypeLemmas.{names-in, names-more, tells-more}
use Rattle.lgr_table.proofs.types.add_of_trigger.Goals as goal

pub loop-name-preserved : goal.loop-name-preserved
loop-name-preserved c =
    let i = c.loop-name.name-index in
    let xs = c.deref-name-items.result.now in
    λ names has.
    subst (λ (l : List (List ℕ)). AreTypes false l c.add_named.new.types.items)
    (ap (λ n. (names ++ take i xs) ++ n ∷ []) c.as_slice.ensures ∙ names-more names xs i c.name-item.result c.loop-name-test.true c.name-item.is)
    (c.in_ok-add_named.ensures.types (names ++ take i xs) (c.loop-name.invariant names has))

pub returns-clause-types : goal.returns-clause-types
returns-clause-types c =
    let i = c.loop-name.name-index in
    let xs = c.deref-name-items.result.now in
    λ names has.
    subst (λ (l : List (List ℕ)). AreTypes false l c.loop-name.types.items)
    (ap (λ l. names ++ l) (take_all i xs c.loop-name-test.false ∙ c.deref-name-items.ensures.value) ∙ ap (λ o. names ++ trigger_types (option_map trigger o)) (sym c.in-Some.is))
    (c.loop-name.invariant names has)

pub returns-in_err-add_named-clause-fault : goal.returns-in_err-add_named-clause-fault
returns-in_err-add_named-clause-fault c = λ names has.
    let p = err_from_is_err_and c.from_residual.result c.from_residual.ensures.1 in
    let i = c.loop-name.name-index in
    let xs = c.deref-name-items.result.now in
    let told = c.in_err-add_named.field-0.0 in
    let all : xs ≡ trigger_types (option_map trigger c.args.trigger.now) =
    c.deref-name-items.ensures.value ∙ ap (λ o. trigger_types (option_map trigger o)) (sym c.in-Some.is) in
    let next : TellsTypes false (names ++ take (i + 1) xs) told =
    subst (λ (l : List (List ℕ)). TellsTypes false l told)
    (ap (λ n. (names ++ take i xs) ++ n ∷ []) c.as_slice.ensures ∙ names-more names xs i c.name-item.result c.loop-name-test.true c.name-item.is)
    (c.in_err-add_named.ensures.fault (names ++ take i xs) (c.loop-name.invariant names has)) in
    rw (p.1, p.2) (subst (λ (l : List (List ℕ)). TellsTypes false (names ++ l) told) all
    (tells-more false (names ++ take (i + 1) xs) (names ++ xs) told (names-in names xs (i + 1)) next))
