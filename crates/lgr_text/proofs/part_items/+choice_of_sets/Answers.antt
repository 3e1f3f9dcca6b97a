use Rattle.std.proofs.Common.{◌≡◌, ◌<◌, length, sym, subst, arith}
use Rattle.std.proofs.lemmas.Result.{IfOk-weaker}
use Rattle.label_patterns.specs.Patterns.{Either}
use Rattle.label_patterns.specs.Sets.{Rise}
use Rattle.label_patterns.specs.Trees.{pattern}
use Rattle.lgr_text.specs.inner.Items.{AddsChoice}
use Rattle.lgr_text.proofs.SetChoiceLemmas.{either-chosen, rise-left, rise-right}
use Rattle.lgr_text.proofs.part_items.+choice_of_sets.Goals as goal

pub set_tree-requires-2-clause-rise : goal.set_tree-requires-2-clause-rise
set_tree-requires-2-clause-rise t c =
    rise-left c.split_at.result.0.now c.split_at.result.1.now (subst Rise c.split_at.ensures.by_index.0 c.requires.rise)

pub choice_of_sets-requires : goal.choice_of_sets-requires
choice_of_sets-requires t c =
    let fewer : length c.split_at.result.1.now < length c.args.spans.now = omega (arith, c.split_at.ensures.back_len, c.if-spans-le-MOST_SPANS.false) in
    let some : 0 < length c.split_at.result.1.now = omega (arith, c.split_at.ensures.back_len, c.if-spans-le-MOST_SPANS.false) in (
      omega (arith, fewer, c.decreases),
      (rise-right c.split_at.result.0.now c.split_at.result.1.now (subst Rise c.split_at.ensures.by_index.0 c.requires.rise), some),
    )

pub returns : goal.returns
returns t c =
    let first = c.split_at.result.0.now in
    let others = c.split_at.result.1.now in
    let old = c.args.sets.now.items in
    let between = c.set_tree-2.new.sets.items in
    let new = c.choice_of_sets.new.sets.items in
    let left = pattern c.in_ok-left.left in
    let right = pattern c.in_ok-right.right in
    let chosen : AddsChoice c.args.spans.now old new (Either left right) =
    either-chosen c.args.spans.now first others old between new left right (sym c.split_at.ensures.by_index.0) c.in_ok-left.ensures.atom
    c.in_ok-left.ensures.sets c.in_ok-right.ensures in
    IfOk-weaker c.either.result (λ tree. pattern tree ≡ Either left right) (λ tree. AddsChoice c.args.spans.now old new (pattern tree))
    (λ tree e. subst (AddsChoice c.args.spans.now old new) (sym e) chosen) c.either.ensures
