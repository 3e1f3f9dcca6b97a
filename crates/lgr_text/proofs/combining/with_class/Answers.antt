use Rattle.std.proofs.Common.{Vec, Global, ◌+◌, eqb, subst, sym, ap, ◌∙◌, arith}
use Rattle.std.specs.List.{All}
use Rattle.std.proofs.lemmas.Result.{IfOk-weaker}
use Rattle.label_patterns.specs.declared.span.Span.{Span}
use Rattle.label_patterns.specs.Sets.{is_in}
use Rattle.lgr_text.specs.CodePoints.{AreApart, IsSpan}
use Rattle.lgr_text.specs.inner.Stretches.{BeginUpTo}
use Rattle.lgr_text.proofs.CombiningLemmas.{apart-spans, has-more, has-same, is-below, HasClassBelow}
use Rattle.ucd_normal.specs.CanonicalCombiningClass.{canonical_combining_class}
use Rattle.lgr_text.proofs.combining.with_class.Goals as goal
use Rattle.lgr_text.proofs.combining.with_class.Goals.{then-has_class+in_ok-append, else-has_class}

pub loop-point-preserved : goal.loop-point-preserved
loop-point-preserved c =
    let class = c.args.class in
    let point = c.loop-point.point in
    let old = c.loop-point.spans.items in
    elim c.if-has_class.branch [
      | then-has_class+in_ok-append w ↦
          has-more class point old c.if-has_class.spans.items (sym c.has_class.ensures ∙ w.if-has_class.true) c.loop-point.invariant
          (subst (λ (v : Vec Span Global). AreApart v.items) (sym w.spans-is) w.in_ok-append.ensures.apart)
          (subst (λ (v : Vec Span Global). BeginUpTo point v.items) (sym w.spans-is) w.in_ok-append.ensures.order)
          (λ d. ap (λ (v : Vec Span Global). is_in v.items d) w.spans-is ∙ w.in_ok-append.ensures.members d)
      | else-has_class w ↦
          subst (λ (v : Vec Span Global). HasClassBelow class (point + 1) v.items) (sym w.spans-is)
          (has-same class point old (sym c.has_class.ensures ∙ w.if-has_class.false) c.loop-point.invariant)
    ]

pub of_spans-requires : goal.of_spans-requires
of_spans-requires c =
    subst (All IsSpan) (sym c.deref.ensures.value) (apart-spans c.loop-point.spans.items 0 c.loop-point.invariant.apart)

pub returns : goal.returns
returns c =
    IfOk-weaker c.of_spans.result _ _
    (λ set members d le.
    members d
    ∙ ap (λ l. is_in l d) c.deref.ensures.value
    ∙ c.loop-point.invariant.members d
    ∙ is-below d c.loop-point.point (eqb (canonical_combining_class d) c.args.class) (omega (arith, le, c.loop-point-test.false)))
    c.of_spans.ensures
