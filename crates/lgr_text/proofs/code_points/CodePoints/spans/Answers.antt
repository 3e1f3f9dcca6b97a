use Rattle.std.proofs.Common.{subst}
use Rattle.label_patterns.specs.Sets.{Rise}
use Rattle.lgr_text.proofs.SpanLemmas.{apart-rise}
use Rattle.lgr_text.proofs.code_points.CodePoints.spans.Goals as goal

pub returns-clause-rise : goal.returns-clause-rise
returns-clause-rise c = subst Rise c.self.view_is (apart-rise c.self.inside.spans.items 0 c.self.invariant)
