use Rattle.std.proofs.Common.{◌<◌, refl, sym, subst, arith}
use Rattle.ruleset_text.specs.declared.spans.Held.TheVariants as held
use Rattle.ruleset_text.specs.inner.Rising.{least, IsRising}
use Rattle.ruleset_text.proofs.SpanLemmas.{rising-push}
use Rattle.ruleset_text.proofs.spans.step.Goals as goal

pub returns-in_ok-push-in-First-Point-clause-rising : goal.returns-in_ok-push-in-First-Point-clause-rising
returns-in_ok-push-in-First-Point-clause-rising c =
    let spans = c.args.spans.now.items in
    let first = c.in-First-Point.first in
    let point = c.in-First-Point.point in
    let rising = subst (IsRising spans) c.in-First-Point.is-0 c.requires in
    let less : first < point = omega (arith, c.if-first-point.false) in
    subst (λ l. IsRising l (held.First point)) (sym (c.in_ok-push-in-First-Point.ensures {u = tt}).items)
    (rising-push spans first first (held.First first) (held.First point) refl (omega arith) less rising)

pub returns-in-First-Range-clause-rising : goal.returns-in-First-Range-clause-rising
returns-in-First-Range-clause-rising c = subst (IsRising c.args.spans.now.items) c.in-First-Range.is-0 c.requires

pub returns-in_ok-push-in-Range-Point-clause-rising : goal.returns-in_ok-push-in-Range-Point-clause-rising
returns-in_ok-push-in-Range-Point-clause-rising c =
    let spans = c.args.spans.now.items in
    let first = c.in-Range-Point.first in
    let last = c.in-Range-Point.last in
    let rising = subst (IsRising spans) c.in-Range-Point.is-0 c.requires in
    let more : last < least c.after.result = subst (λ h. last < least h) (sym c.after.ensures) (omega arith) in
    subst (λ l. IsRising l c.after.result) (sym (c.in_ok-push-in-Range-Point.ensures {u = tt}).items)
    (rising-push spans first last (held.Range first) c.after.result refl (omega (arith, c.if-first-last.false)) more rising)
