use Rattle.std.proofs.Common.{take, length-take, take-take, sym, ap₂, ◌∙◌, arith}
use Rattle.std.specs.Ordering.{nat_cmp}
use Rattle.std.proofs.lemmas.List.{get_or-take}
use Rattle.registered_labels.proofs.FirstDifference.{first_decides}
use Rattle.registered_labels.proofs.order.order_of.Goals as goal

pub returns-then-at-other_len : goal.returns-then-at-other_len
returns-then-at-other_len c =
    let one = c.args.one.now in
    let other = c.args.other.now in
    let n = c.args.one_len in
    let m = c.args.other_len in
    let at = c.in-Some.at in
    let found = c.in-Some.ensures in
    let in_one = get_or-take n one at 0 c.if-at-one_len.true in
    let in_other = get_or-take m other at 0 c.if-at-other_len.true in
    c.cmp.ensures
    ∙ sym (first_decides (take n one) (take m other) at
    (omega (arith, length-take n one, c.requires.one, c.if-at-one_len.true))
    (omega (arith, length-take m other, c.requires.other, c.if-at-other_len.true))
    (take-take at n one (omega (arith, c.if-at-one_len.true)) ∙ found.same ∙ sym (take-take at m other (omega (arith, c.if-at-other_len.true))))
    (λ e. found.differs (sym in_one ∙ e ∙ in_other))
    ∙ ap₂ nat_cmp in_one in_other)
