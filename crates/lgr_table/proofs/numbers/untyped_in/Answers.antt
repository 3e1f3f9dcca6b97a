use Rattle.std.proofs.Common.{◌≡◌, ◌+◌, true, false, None, get_or, refl, sym, ap, ◌∙◌, arith}
use Rattle.std.proofs.lemmas.List.{get_or_read}
use Rattle.lgr_table.specs.Numbers.{is_same, types_with}
use Rattle.lgr_table.proofs.NumberTypeLemmas.{none-below, number-found, number-none, type_there, untyped-below}
use Rattle.lgr_table.proofs.numbers.untyped_in.Goals as goal

pub loop-place-init : goal.loop-place-init
loop-place-init c = λ k less. untyped-below c.args.types.now k (omega (arith, less))

pub returns-then-is_untyped : goal.returns-then-is_untyped
returns-then-is_untyped c =
    let types = c.args.types.now in
    let p = c.loop-place.place in
    let this = c.index-types-place.result in
    let here : is_same None (get_or (types_with types) (5 + p) None) ≡ true =
    ap (is_same None) (type_there types p (5 + p) refl ∙ sym (get_or_read types p this c.loop-place-test.true c.index-types-place.is None))
    ∙ sym c.is_untyped.ensures ∙ c.if-is_untyped.true in
    number-found types None (5 + p) (omega arith) c.loop-place.invariant here

pub loop-place-preserved : goal.loop-place-preserved
loop-place-preserved c =
    let types = c.args.types.now in
    let p = c.loop-place.place in
    let this = c.index-types-place.result in
    let here : is_same None (get_or (types_with types) (5 + p) None) ≡ false =
    ap (is_same None) (type_there types p (5 + p) refl ∙ sym (get_or_read types p this c.loop-place-test.true c.index-types-place.is None))
    ∙ sym c.is_untyped.ensures ∙ c.if-is_untyped.false in
    λ k less. none-below types None (5 + p) c.loop-place.invariant here k (omega (arith, less))

pub returns : goal.returns
returns c = number-none c.args.types.now None (5 + c.loop-place.place) (omega arith) c.loop-place.invariant
