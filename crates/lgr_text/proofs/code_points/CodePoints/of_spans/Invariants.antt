use Rattle.lgr_text.proofs.SortedLemmas.{AreJoinedBelow}
use Rattle.lgr_text.proofs.code_points.CodePoints.of_spans.Given as goal

-- the spans so far
abbrev pub invariant-loop-span : goal.invariant-loop-span
invariant-loop-span l = AreJoinedBelow l.span-items l.span-index l.joined.items
