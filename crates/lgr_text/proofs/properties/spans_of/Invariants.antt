use Rattle.std.proofs.Common.{◌≡◌, map, take}
use Rattle.lgr_text.proofs.PropertyLemmas.{span_of}
use Rattle.lgr_text.proofs.properties.spans_of.Given as goal

-- the spans so far
abbrev pub invariant-loop-first : goal.invariant-loop-first
invariant-loop-first l = l.spans.items ≡ map span_of (take l.first-index l.ranges)
