use Rattle.std.proofs.Common.{Vec, Global, ◌≤◌, ◌||◌, ◌&&◌, leb, subst, sym, ap, ◌∙◌, arith}
use Rattle.std.proofs.Math.Bool.{or-false}
use Rattle.label_patterns.specs.declared.span.Span.{Span}
use Rattle.label_patterns.specs.Sets.{is_in}
use Rattle.lgr_text.specs.CodePoints.{AreApart}
use Rattle.lgr_text.specs.inner.Stretches.{BeginUpTo}
use Rattle.lgr_text.proofs.JoinLemmas.{joined-more}
use Rattle.lgr_text.proofs.code_points.join.Goals as goal
use Rattle.lgr_text.proofs.code_points.join.Goals.{then-is_joined+in_ok-append, else-is_joined}

pub loop-first-preserved : goal.loop-first-preserved
loop-first-preserved c =
    let first = c.loop-first.first in
    let last = c.min-last.result in
    let some : first ≤ last = omega (arith, c.min-last.ensures, c.stretch_from-of_left.ensures.some, c.stretch_from-of_right.ensures.some) in
    let within : last ≤ 0x10FFFF = omega (arith, c.min-last.ensures, c.stretch_from-of_left.ensures.within) in
    joined-more c.args.operation c.args.left.now c.args.right.now c.loop-first.left_rest.now c.loop-first.right_rest.now c.after-left_rest.result.now c.after-right_rest.result.now
    first last c.loop-first.spans.items c.if-is_joined.spans.items c.stretch_from-of_left.result.is_in c.stretch_from-of_right.result.is_in
    c.loop-first.invariant some within
    (λ d from up_to. c.stretch_from-of_left.ensures.all d from (omega (arith, c.min-last.ensures, up_to)))
    (λ d from up_to. c.stretch_from-of_right.ensures.all d from (omega (arith, c.min-last.ensures, up_to)))
    c.after-left_rest.ensures.spans c.after-right_rest.ensures.spans
    c.after-left_rest.ensures.members c.after-right_rest.ensures.members
    (elim c.if-is_joined.branch [
      | then-is_joined+in_ok-append w ↦ subst (λ (v : Vec Span Global). AreApart v.items) (sym w.spans-is) w.in_ok-append.ensures.apart
      | else-is_joined w ↦ subst (λ (v : Vec Span Global). AreApart v.items) (sym w.spans-is) c.loop-first.invariant.apart
    ])
    (elim c.if-is_joined.branch [
      | then-is_joined+in_ok-append w ↦ subst (λ (v : Vec Span Global). BeginUpTo first v.items) (sym w.spans-is) w.in_ok-append.ensures.order
      | else-is_joined w ↦ subst (λ (v : Vec Span Global). BeginUpTo first v.items) (sym w.spans-is) c.loop-first.invariant.begin
    ])
    (elim c.if-is_joined.branch [
      | then-is_joined+in_ok-append w ↦ λ d.
          ap (λ (v : Vec Span Global). is_in v.items d) w.spans-is
          ∙ w.in_ok-append.ensures.members d
          ∙ ap (λ b. is_in c.loop-first.spans.items d || (b && (leb first d && leb d last))) (sym w.if-is_joined.true ∙ c.is_joined.ensures)
      | else-is_joined w ↦ λ d.
          ap (λ (v : Vec Span Global). is_in v.items d) w.spans-is
          ∙ sym (or-false (is_in c.loop-first.spans.items d))
          ∙ ap (λ b. is_in c.loop-first.spans.items d || (b && (leb first d && leb d last))) (sym w.if-is_joined.false ∙ c.is_joined.ensures)
    ])
