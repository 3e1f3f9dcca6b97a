use Rattle.std.proofs.Common.{◌≡◌, refl, ℕ, ◌+◌, ◌-◌, ◌<◌, ◌≤◌, [], ◌∷◌, List, length, drop, sym, ap, ◌∙◌, subst, arith}
use Rattle.std.proofs.lemmas.List.{drop_all, drop_more, length-drop}
use Rattle.reading_kinds.specs.Readings.{Substitution, substitutions_at}
use Rattle.variant_list.specs.inner.Layouts.{IsLaid}
use Rattle.variant_list.specs.inner.NetPlans.{IsNetOf}
use Rattle.variant_list.proofs.DraftLemmas.{IsNetOf-laid}
use Rattle.variant_list.proofs.draft.lay_out.Goals as goal

pub loop-place-init : goal.loop-place-init
loop-place-init c =
    let over : length c.args.substitutions.now ≤ c.len-place.result = omega (arith, c.len-place.ensures) in
    subst (λ us. IsLaid us c.in_ok-draft.draft) (sym (drop_all c.len-place.result c.args.substitutions.now over)) c.in_ok-draft.ensures

pub add_substitutions-requires-clause-count : goal.add_substitutions-requires-clause-count
add_substitutions-requires-clause-count c =
    omega (arith, c.loop-place.invariant.open_place.count, length-drop c.loop-place.place c.args.substitutions.now, c.loop-place-test.true, c.loop-place.auto.place, c.len-place.ensures)

pub loop-place-preserved : goal.loop-place-preserved
loop-place-preserved c =
    let substitutions : List (List Substitution) = c.args.substitutions.now in
    let place : ℕ = c.loop-place.place - 1 in
    let less : place < length substitutions = omega (arith, c.loop-place-test.true, c.loop-place.auto.place, c.len-place.ensures) in
    let up : place + 1 ≡ c.loop-place.place = omega (arith, c.loop-place-test.true) in
    let later : List (List Substitution) = drop c.loop-place.place substitutions in
    let all : substitutions_at substitutions place ∷ later ≡ drop place substitutions = ap (λ n. substitutions_at substitutions place ∷ drop n substitutions) (sym up) ∙ sym (drop_more substitutions place [] less) in
    subst (λ us. IsLaid us c.end_place.new.self) all
    (c.in_ok-end_place.ensures.substitutions later (substitutions_at substitutions place) (c.in_ok-add_substitutions.ensures.substitutions later [] c.loop-place.invariant.open_place))

pub returns : goal.returns
returns c =
    let over : c.loop-place.place ≡ 0 = omega (arith, c.loop-place-test.false) in
    let whole : drop c.loop-place.place c.args.substitutions.now ≡ c.args.substitutions.now = ap (λ n. drop n c.args.substitutions.now) over ∙ drop-none c.args.substitutions.now in
    subst (IsNetOf c.args.substitutions.now) (sym c.finished.ensures) (IsNetOf-laid c.args.substitutions.now c.loop-place.draft (subst (λ us. IsLaid us c.loop-place.draft) whole c.loop-place.invariant))
  where
    drop-none : (us : List (List Substitution)) → drop 0 us ≡ us
    drop-none [] = refl
    drop-none (u ∷ us) = refl
