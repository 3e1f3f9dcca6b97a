use Rattle.std.proofs.Common.{◌≡◌, ◌<◌, ℕ, Vec, Global, List, false, length, map, get_or, Some, None, sym, ap, subst, ◌∙◌, arith}
use Rattle.std.proofs.lemmas.List.{get_or-map, length-map}
use Rattle.lgr_text.specs.DefinitionOrder.{first_undefined, is_left, is_next, is_placed, is_repeated, line_at, IsFirstBelow, IsFirstEndless, IsOrdered}
use Rattle.lgr_text.specs.NamedParts.{parts as parts_of}
use Rattle.lgr_text.specs.declared.named_parts.NamedPart.{NamedPart}
use Rattle.lgr_text.specs.declared.records.Definition.{Definition}
use Rattle.lgr_text.proofs.OrderLemmas.{items_of, left, left-endless, left-less, not-placed, placed-not-endless}
use Rattle.lgr_text.proofs.order.definition_order.Goals as goal

pub loop-number-smaller : goal.loop-number-smaller
loop-number-smaller c =
    let parts = c.in_ok-parts.parts.items in
    let order = c.loop-number.order.items in
    let k = c.in-Some-next_ready.number in
    let next : IsFirstBelow (length parts) (is_next (map items_of parts) order) (Some k) =
    subst (λ l. IsFirstBelow (length parts) (is_next (map items_of parts) l) (Some k)) c.deref-in-loop-number-2.ensures.value
    (subst (λ (l : List (Vec NamedPart Global)). IsFirstBelow (length l) (is_next (map items_of l) c.deref-in-loop-number-2.result.now) (Some k))
    c.deref-in-loop-number.ensures.value c.in-Some-next_ready.ensures) in
    subst (λ l. left (length parts) l < left (length parts) order) (sym c.in_ok-push.ensures.items)
    (left-less (length parts) order k next.0 (not-placed (is_placed order k) _ next.1))

pub returns-in-Some-first_left-clause-fault : goal.returns-in-Some-first_left-clause-fault
returns-in-Some-first_left-clause-fault c =
    let ds = c.args.definitions.now in
    let parts = c.in_ok-parts.parts.items in
    let order = c.loop-number.order.items in
    let all = parts_of ds in
    let same : map items_of parts ≡ all = c.in_ok-parts.ensures in
    let k = c.in-Some-first_left.number in
    let this = c.index-definitions-number-in-Some-first_left.result in
    let left : IsFirstBelow (length ds) (is_left order) (Some k) =
    subst (λ l. IsFirstBelow (length ds) (is_left l) (Some k)) c.deref-2.ensures.value c.in-Some-first_left.ensures in
    let none : IsFirstBelow (length parts) (is_next (map items_of parts) order) None =
    subst (λ l. IsFirstBelow (length parts) (is_next (map items_of parts) l) None) c.deref-in-loop-number-2.ensures.value
    (subst (λ (l : List (Vec NamedPart Global)). IsFirstBelow (length l) (is_next (map items_of l) c.deref-in-loop-number-2.result.now) None)
    c.deref-in-loop-number.ensures.value c.in_default-next_ready.ensures) in
    let ordered : IsOrdered all order = subst (λ l. IsOrdered l order) same c.loop-number.invariant in
    let stuck : (j : ℕ) → j < length all → is_next all order j ≡ false = λ j less.
    ap (λ l. is_next l order j) (sym same)
    ∙ none j (let size = ap length same in omega (arith, less, size, length-map parts items_of)) in
    let undefined : first_undefined all ≡ None =
    ap first_undefined (sym same)
    ∙ ap (λ (l : List (Vec NamedPart Global)). first_undefined (map items_of l)) (sym c.deref.ensures.value)
    ∙ sym c.first_undefined.ensures ∙ c.in_default-first_undefined.is in
    let repeated : IsFirstBelow (length ds) (is_repeated ds) None = c.in_default.ensures in
    let line : (get_or ds k this).line ≡ line_at ds k = sym (get_or-map (λ (d : Definition). d.line) ds k this 0 left.0) in
    let same_line : this.line ≡ line_at ds k = ap (λ (d : Definition). d.line) c.index-definitions-number-in-Some-first_left.is ∙ line in
    let first : (l : ℕ) → l ≡ line_at ds k → IsFirstEndless ds l = λ l is. record {
      number = k;
      within = left.0;
      endless = left-endless all order k stuck left.1;
      first = λ j less. placed-not-endless all order j ordered (left.2 j less);
      is = is;
    } in
    (repeated, undefined, first _ (assumption (line, same_line)))
