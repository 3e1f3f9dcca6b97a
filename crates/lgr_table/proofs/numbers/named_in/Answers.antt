use Rattle.std.proofs.Common.{◌≡◌, ◌+◌, true, false, None, Some, get_or, refl, sym, ap, ◌∙◌, arith}
use Rattle.std.specs.Prelude.{bytes_eq}
use Rattle.std.proofs.lemmas.List.{get_or_read}
use Rattle.lgr_table.specs.Numbers.{is_same, types_with}
use Rattle.lgr_table.proofs.NumberTypeLemmas.{none-below, number-found, number-none, predefined_there, type_there}
use Rattle.lgr_table.proofs.numbers.named_in.Goals as goal

pub loop-number-init : goal.loop-number-init
loop-number-init c = λ k less. absurd (omega (arith, less))

pub returns-then-eq : goal.returns-then-eq
returns-then-eq c =
    let types = c.args.types.now in
    let n = c.loop-number.number in
    let here : is_same (Some c.args.name.now) (get_or (types_with types) n None) ≡ true =
    ap (is_same (Some c.args.name.now)) (predefined_there types n (omega arith))
    ∙ ap (bytes_eq c.args.name.now) (sym c.predefined_type.ensures) ∙ sym c.eq.ensures ∙ c.if-eq.true in
    number-found types (Some c.args.name.now) n (omega arith) c.loop-number.invariant here

pub loop-number-preserved : goal.loop-number-preserved
loop-number-preserved c =
    let types = c.args.types.now in
    let n = c.loop-number.number in
    let here : is_same (Some c.args.name.now) (get_or (types_with types) n None) ≡ false =
    ap (is_same (Some c.args.name.now)) (predefined_there types n (omega arith))
    ∙ ap (bytes_eq c.args.name.now) (sym c.predefined_type.ensures) ∙ sym c.eq.ensures ∙ c.if-eq.false in
    none-below types (Some c.args.name.now) n c.loop-number.invariant here

pub loop-place-init : goal.loop-place-init
loop-place-init c = λ k less. c.loop-number.invariant k (omega (arith, less))

pub returns-then-is_named : goal.returns-then-is_named
returns-then-is_named c =
    let types = c.args.types.now in
    let p = c.loop-place.place in
    let this = c.index-types-place.result in
    let here : is_same (Some c.args.name.now) (get_or (types_with types) (5 + p) None) ≡ true =
    ap (is_same (Some c.args.name.now)) (type_there types p (5 + p) refl ∙ sym (get_or_read types p this c.loop-place-test.true c.index-types-place.is None))
    ∙ sym c.is_named.ensures ∙ c.if-is_named.true in
    number-found types (Some c.args.name.now) (5 + p) (omega arith) c.loop-place.invariant here

pub loop-place-preserved : goal.loop-place-preserved
loop-place-preserved c =
    let types = c.args.types.now in
    let p = c.loop-place.place in
    let this = c.index-types-place.result in
    let here : is_same (Some c.args.name.now) (get_or (types_with types) (5 + p) None) ≡ false =
    ap (is_same (Some c.args.name.now)) (type_there types p (5 + p) refl ∙ sym (get_or_read types p this c.loop-place-test.true c.index-types-place.is None))
    ∙ sym c.is_named.ensures ∙ c.if-is_named.false in
    λ k less. none-below types (Some c.args.name.now) (5 + p) c.loop-place.invariant here k (omega (arith, less))

pub returns : goal.returns
returns c = number-none c.args.types.now (Some c.args.name.now) (5 + c.loop-place.place) (omega arith) c.loop-place.invariant
