use Rattle.std.proofs.Common.{◌≡◌, inl, inr, [], false, not, map, get_or, sym, ap, subst, ◌∙◌, arith}
use Rattle.std.proofs.lemmas.Bool.{cases_lt}
use Rattle.std.proofs.lemmas.List.{get_or-map}
use Rattle.lgr_text.specs.DefinitionOrder.{are_placed, is_left, is_next}
use Rattle.lgr_text.proofs.OrderLemmas.{items_of, left-false, right-false}
use Rattle.lgr_text.proofs.order.next_ready.Goals as goal
use Rattle.lgr_text.proofs.order.next_ready.Goals.{else-not-contains-via-then-not-contains+else-are_placed, else-not-contains-via-else-not-contains}

pub loop-number-preserved : goal.loop-number-preserved
loop-number-preserved c =
    let parts = c.args.parts.now in
    let order = c.args.order.now in
    let n = c.loop-number.number-counter in
    let here : is_next (map items_of parts) order n ≡ false = elim c.else-not-contains.branch [
      | else-not-contains-via-then-not-contains+else-are_placed w ↦
          (let item = get_or-map items_of parts n w.index-parts-number.result [] c.loop-number-test.true in
          let is = w.index-parts-number.is in
          let items = w.deref.ensures.value in
          let named : get_or (map items_of parts) n [] ≡ w.deref.result.now = cc in
          right-false (is_left order n) (are_placed order (get_or (map items_of parts) n []))
          (ap (are_placed order) named ∙ sym w.are_placed.ensures ∙ w.if-are_placed.false))
      | else-not-contains-via-else-not-contains w ↦
          left-false (is_left order n) (are_placed order (get_or (map items_of parts) n [])) (ap not (sym c.contains.ensures.value ∙ w.if-not-contains.false))
    ] in
    λ j less. elim (cases_lt j n) [
      | inl below ↦ c.loop-number.invariant j below
      | inr from ↦ subst (λ i. is_next (map items_of parts) order i ≡ false) (omega (arith, less, from)) here
    ]
