use Rattle.std.proofs.Common.{◌≡◌, ℕ, ◌++◌, ◌∷◌, [], false, Option, Some, List, refl, sym, ap, subst, ◌∙◌}
use Rattle.std.specs.Prelude.{is_some}
use Rattle.std.proofs.lemmas.Result.{err_from_is_err_and}
use Rattle.lgr_table.specs.Numbers.{number_among}
use Rattle.lgr_table.specs.inner.TypeSteps.{AreTypes}
use Rattle.lgr_table.proofs.TypeLemmas.{known_already, tells-full, type_added}
use Rattle.lgr_table.proofs.types.add_named.Goals as goal

pub returns-then-is_some-clause-types : goal.returns-then-is_some-clause-types
returns-then-is_some-clause-types c = λ names are.
    known_already false names c.args.types.now.items c.args.name.now are
    (ap (λ l. is_some (number_among l (Some c.args.name.now))) (sym c.deref.ensures.value) ∙ ap is_some (sym c.named_in.ensures) ∙ sym c.is_some.ensures ∙ c.if-is_some.true)

pub returns-clause-types : goal.returns-clause-types
returns-clause-types c = λ names are.
    let fresh : is_some (number_among c.args.types.now.items (Some c.args.name.now)) ≡ false =
    ap (λ l. is_some (number_among l (Some c.args.name.now))) (sym c.deref.ensures.value) ∙ ap is_some (sym c.named_in.ensures) ∙ sym c.is_some.ensures ∙ c.if-is_some.false in
    subst (λ (l : List (Option (List ℕ))). AreTypes false (names ++ c.args.name.now ∷ []) l)
    (sym (c.in_ok-add_type.ensures.added ∙ ap (λ n. c.args.types.now.items ++ Some n ∷ []) c.in_ok-copied.ensures))
    (type_added names c.args.types.now.items c.args.name.now are fresh)

pub returns-in_err-add_type-clause-fault : goal.returns-in_err-add_type-clause-fault
returns-in_err-add_type-clause-fault c = λ names are.
    let p = err_from_is_err_and c.from_residual-in_err-add_type.result c.from_residual-in_err-add_type.ensures.1 in
    let old = c.args.types.now.items in
    let name = c.args.name.now in
    let fresh : is_some (number_among old (Some name)) ≡ false =
    ap (λ l. is_some (number_among l (Some name))) (sym c.deref.ensures.value) ∙ ap is_some (sym c.named_in.ensures) ∙ sym c.is_some.ensures ∙ c.if-is_some.false in
    rw (p.1, p.2) (tells-full false (names ++ name ∷ []) old (old ++ Some name ∷ []) (Some name) c.in_err-add_type.field-0.0 refl
    (type_added names old name are fresh) c.in_err-add_type.ensures.fault)
