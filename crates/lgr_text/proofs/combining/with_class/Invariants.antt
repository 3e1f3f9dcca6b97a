use Rattle.lgr_text.proofs.CombiningLemmas.{HasClassBelow}
use Rattle.lgr_text.proofs.combining.with_class.Given as goal

-- the spans so far
abbrev pub invariant-loop-point : goal.invariant-loop-point
invariant-loop-point l = HasClassBelow l.class l.point l.spans.items
