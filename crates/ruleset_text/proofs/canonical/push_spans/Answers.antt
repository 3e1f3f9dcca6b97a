use Rattle.ruleset_text.proofs.SpanTextLemmas.{spans_text-next}
use Rattle.ruleset_text.proofs.canonical.push_spans.Goals as goal

pub loop-span-preserved : goal.loop-span-preserved
loop-span-preserved c =
    spans_text-next c.args.out.now.items _ _ _ c.spans-span-items.result.now c.loop-span.span-index _ c.loop-span-test.true c.loop-span.invariant c.in_ok-push_byte.ensures c.in_ok-push_span.ensures
