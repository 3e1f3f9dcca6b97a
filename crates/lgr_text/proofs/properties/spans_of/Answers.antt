use Rattle.std.proofs.Common.{◌≡◌, map, subst, sym, ap, ◌∙◌}
use Rattle.std.specs.List.{All}
use Rattle.std.proofs.lemmas.List.{take_all}
use Rattle.label_patterns.specs.Sets.{is_in}
use Rattle.lgr_text.specs.CodePoints.{IsSpan}
use Rattle.lgr_text.proofs.PropertyLemmas.{ranges-in, ranges-spans, span_of}
use Rattle.lgr_text.proofs.properties.spans_of.Goals as goal

pub returns-clause-spans : goal.returns-clause-spans
returns-clause-spans c =
    let is : c.loop-first.spans.items ≡ map span_of c.args.ranges.now =
    c.loop-first.invariant ∙ ap (map span_of) (take_all c.loop-first.first-index c.args.ranges.now c.loop-first-test.false) in
    subst (All IsSpan) (sym is) (ranges-spans c.args.ranges.now c.requires)

pub returns-clause-members : goal.returns-clause-members
returns-clause-members c = λ d.
    let is : c.loop-first.spans.items ≡ map span_of c.args.ranges.now =
    c.loop-first.invariant ∙ ap (map span_of) (take_all c.loop-first.first-index c.args.ranges.now c.loop-first-test.false) in
    ap (λ l. is_in l d) is ∙ ranges-in c.args.ranges.now d
