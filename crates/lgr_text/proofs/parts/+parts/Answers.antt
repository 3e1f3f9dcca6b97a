use Rattle.std.proofs.Common.{◌≡◌, ◌-◌, true, cond, List, [], ◌∷◌, Some, None, Ok, Option, map, sym, ap, ◌∙◌, subst, arith}
use Rattle.std.specs.Prelude.{option_and_then, option_map}
use Rattle.std.proofs.lemmas.List.{map-append}
use Rattle.std.proofs.lemmas.Result.{err_from_is_err_and}
use Rattle.lgr_text.specs.declared.classes.ClassPlace.TheVariants.{InRule}
use Rattle.lgr_text.specs.declared.element.Element as held
use Rattle.lgr_text.specs.declared.rule_elements.RuleElement.{RuleElement}
use Rattle.lgr_text.specs.Attributes.{are_among}
use Rattle.lgr_text.specs.Classes.{class_of}
use Rattle.lgr_text.specs.Elements
use Rattle.lgr_text.specs.Elements.{each_element, if_among, if_plain}
use Rattle.lgr_text.specs.Orders.{Item, in_order, item}
use Rattle.lgr_text.specs.Parts.{holder_names, item_of, order_in, part_as, part_of, plain_names, plain_part}
use Rattle.lgr_text.specs.Records as records
use Rattle.lgr_text.specs.inner.Reading.{IsFirst, NextIs, Reads, after_blanks, node}
use Rattle.lgr_text.proofs.LevelLemmas.{part-none, part-some}
use Rattle.lgr_text.proofs.LoopLemmas.{Left, left-first, left-none, left-text}
use Rattle.lgr_text.proofs.PassLemmas.{next-fails, fails-fails, is-not-fails}
use Rattle.lgr_text.proofs.parts.+parts.Goals as goal

pub read_items-returns-in_err-element : goal.read_items-returns-in_err-element
read_items-returns-in_err-element t c = λ k say.
    let read = item_of c.args.levels in
    let l = c.loop-items.invariant k say in
    let p = err_from_is_err_and c.from_residual.result c.from_residual.ensures.1 in
    rw (p.1, p.2) (next-fails (each_element read k) _ c.next.new.self (after_blanks l.content)
    (λ h. left-text read (map item c.loop-items.items.items) c.loop-items.elements c.next.new.self k l h) ((c.in_err-element.ensures {u = tt}).next l.content l.say))

pub read_items-returns-in_err-read_item : goal.read_items-returns-in_err-read_item
read_items-returns-in_err-read_item t c = λ k say.
    let read = item_of c.args.levels in
    let l = c.loop-items.invariant k say in
    let e = c.in-Some.element in
    let next : IsFirst e c.next.new.self (after_blanks l.content) = subst (λ (o : Option held.Element). NextIs c.next.new.self (after_blanks l.content) (Ok o)) c.in-Some.is ((c.in_ok-element.ensures {u = tt}).next l.content l.say) in
    let step = left-first read (map item c.loop-items.items.items) c.loop-items.elements c.next.new.self k l e next in
    let p = err_from_is_err_and c.from_residual-in_err-read_item.result c.from_residual-in_err-read_item.ensures.1 in
    rw (p.1, p.2) (fails-fails (read (node e step.0)) (each_element read k) _ step.3 (c.in_err-read_item.ensures {u = tt} step.0 step.1))

pub read_items-loop-items-preserved : goal.read_items-loop-items-preserved
read_items-loop-items-preserved t c = λ k say.
    let read = item_of c.args.levels in
    let l = c.loop-items.invariant k say in
    let e = c.in-Some.element in
    let next : IsFirst e c.next.new.self (after_blanks l.content) = subst (λ (o : Option held.Element). NextIs c.next.new.self (after_blanks l.content) (Ok o)) c.in-Some.is ((c.in_ok-element.ensures {u = tt}).next l.content l.say) in
    let step = left-first read (map item c.loop-items.items.items) c.loop-items.elements c.next.new.self k l e next in
    let x = item c.in_ok-read_item.field-0 in
    let now = step.2 x (c.in_ok-read_item.ensures {u = tt} step.0 step.1) in
    let pushed = (c.in_ok-push.ensures {u = tt}).items in
    let more = map-append item c.loop-items.items.items (c.in_ok-read_item.field-0 ∷ []) in
    subst (λ (vs : List Item). Left read vs c.next.new.self k) (sym (ap (map item) pushed ∙ more)) now

pub read_items-returns : goal.read_items-returns
read_items-returns t c = λ k say.
    let read = item_of c.args.levels in
    let l = c.loop-items.invariant k say in
    let is : c.in_ok-element.field-0 ≡ None = grind arith in
    let next : after_blanks l.content ≡ Elements.Nothing = subst (λ (o : Option held.Element). NextIs c.next.new.self (after_blanks l.content) (Ok o)) is ((c.in_ok-element.ensures {u = tt}).next l.content l.say) in
    left-none read (map item c.loop-items.items.items) c.loop-items.elements c.next.new.self k l next

-- ---- a part

pub read_part-returns-then-levels-eq0 : goal.read_part-returns-then-levels-eq0
read_part-returns-then-levels-eq0 t c = λ k say.
    rw c.wrong.ensures (part-none c.args.levels (node c.args.element.now k) (omega arith))

pub read_part-returns-in_err-class-in-ClassOrSet : goal.read_part-returns-in_err-class-in-ClassOrSet
read_part-returns-in_err-class-in-ClassOrSet t c = λ k say.
    let n = node c.args.element.now k in
    let items = each_element (item_of (c.args.levels - 1)) in
    let class = option_map records.Of (class_of c.args.levels InRule n) in
    let said : part_of c.args.levels n ≡ class =
    part-some c.args.levels n (omega arith) ∙ ap (λ (r : RuleElement). part_as r class items n) (sym c.in-ClassOrSet.ensures) in
    let p = err_from_is_err_and c.from_residual.result c.from_residual.ensures.1 in
    rw (p.1, p.2) (fails-fails (class_of c.args.levels InRule n) (part_of c.args.levels n) _ (λ f. said ∙ ap (option_map records.Of) f)
    (c.in_err-class-in-ClassOrSet.ensures {u = tt} k say))

pub read_part-returns-in_ok-class-in-ClassOrSet : goal.read_part-returns-in_ok-class-in-ClassOrSet
read_part-returns-in_ok-class-in-ClassOrSet t c = λ k say.
    let n = node c.args.element.now k in
    let items = each_element (item_of (c.args.levels - 1)) in
    let class = option_map records.Of (class_of c.args.levels InRule n) in
    part-some c.args.levels n (omega arith)
    ∙ ap (λ (r : RuleElement). part_as r class items n) (sym c.in-ClassOrSet.ensures)
    ∙ ap (option_map records.Of) (c.in_ok-class-in-ClassOrSet.ensures {u = tt} k say)

pub read_part-returns-in-Plain : goal.read_part-returns-in-Plain
read_part-returns-in-Plain t c = λ k say.
    let n = node c.args.element.now k in
    let items = each_element (item_of (c.args.levels - 1)) in
    let class = option_map records.Of (class_of c.args.levels InRule n) in
    let said : part_of c.args.levels n ≡ if_plain (plain_names c.in-Plain.plain) n (plain_part c.in-Plain.plain n.attributes) =
    part-some c.args.levels n (omega arith) ∙ ap (λ (r : RuleElement). part_as r class items n) (sym c.in-Plain.ensures) in
    subst (λ (o : Option records.Part). Reads records.part o c.read_plain.result) (sym said) (c.read_plain.ensures k say)

pub read_part-returns-in_err-check-in-Holder : goal.read_part-returns-in_err-check-in-Holder
read_part-returns-in_err-check-in-Holder t c = λ k say.
    let n = node c.args.element.now k in
    let h = c.in-Holder.holder in
    let items = each_element (item_of (c.args.levels - 1)) in
    let class = option_map records.Of (class_of c.args.levels InRule n) in
    let inner = option_and_then (in_order (order_in h)) (items k) in
    let said : part_of c.args.levels n ≡ if_among (holder_names h) n inner =
    part-some c.args.levels n (omega arith) ∙ ap (λ (r : RuleElement). part_as r class items n) (sym c.in-Holder.ensures) in
    let p = err_from_is_err_and c.from_residual-in_err-check-in-Holder.result c.from_residual-in_err-check-in-Holder.ensures.1 in
    rw (p.1, p.2) (is-not-fails (are_among c.names.result.now n.attributes) (part_of c.args.levels n) _
    (λ f. said ∙ ap (λ b. cond b inner None) (ap (λ names. are_among names n.attributes) (sym c.names.ensures) ∙ f))
    (c.in_err-check-in-Holder.ensures {u = tt}))

pub read_part-returns-in_err-items-in-Holder : goal.read_part-returns-in_err-items-in-Holder
read_part-returns-in_err-items-in-Holder t c = λ k say.
    let n = node c.args.element.now k in
    let h = c.in-Holder.holder in
    let items = each_element (item_of (c.args.levels - 1)) in
    let class = option_map records.Of (class_of c.args.levels InRule n) in
    let inner = option_and_then (in_order (order_in h)) (items k) in
    let among : are_among (holder_names h) n.attributes ≡ true =
    ap (λ names. are_among names n.attributes) (sym c.names.ensures) ∙ c.in_ok-check-in-Holder.ensures {u = tt} in
    let said : part_of c.args.levels n ≡ inner =
    part-some c.args.levels n (omega arith) ∙ ap (λ (r : RuleElement). part_as r class items n) (sym c.in-Holder.ensures) ∙ ap (λ b. cond b inner None) among in
    let p = err_from_is_err_and c.from_residual-in_err-items-in-Holder.result c.from_residual-in_err-items-in-Holder.ensures.1 in
    rw (p.1, p.2) (fails-fails (items k) (part_of c.args.levels n) _ (λ f. said ∙ ap (option_and_then (in_order (order_in h))) f)
    (c.in_err-items-in-Holder.ensures {u = tt} k say))

pub read_part-returns-in_ok-items-in-Holder : goal.read_part-returns-in_ok-items-in-Holder
read_part-returns-in_ok-items-in-Holder t c = λ k say.
    let n = node c.args.element.now k in
    let h = c.in-Holder.holder in
    let items = each_element (item_of (c.args.levels - 1)) in
    let class = option_map records.Of (class_of c.args.levels InRule n) in
    let inner = option_and_then (in_order (order_in h)) (items k) in
    let among : are_among (holder_names h) n.attributes ≡ true =
    ap (λ names. are_among names n.attributes) (sym c.names.ensures) ∙ c.in_ok-check-in-Holder.ensures {u = tt} in
    let found = map item c.in_ok-items-in-Holder.items.items in
    let read : items k ≡ Some found = c.in_ok-items-in-Holder.ensures {u = tt} k say in
    let said : part_of c.args.levels n ≡ in_order c.order.result found =
    part-some c.args.levels n (omega arith) ∙ ap (λ (r : RuleElement). part_as r class items n) (sym c.in-Holder.ensures) ∙ ap (λ b. cond b inner None) among
    ∙ ap (option_and_then (in_order (order_in h))) read ∙ ap (λ o. in_order o found) (sym c.order.ensures) in
    subst (λ (o : Option records.Part). Reads records.part o c.in_order.result) (sym said) c.in_order.ensures
