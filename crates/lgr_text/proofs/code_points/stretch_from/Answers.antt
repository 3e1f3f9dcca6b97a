use Rattle.std.proofs.Common.{arith}
use Rattle.lgr_text.proofs.SpanLemmas.{before-the-first}
use Rattle.lgr_text.proofs.code_points.stretch_from.Goals as goal

pub returns-else-span-first-clause-all : goal.returns-else-span-first-clause-all
returns-else-span-first-clause-all c =
    λ d from up_to. before-the-first c.args.spans.now c.args.first d (record { first = 0; last = 0 }) c.requires.spans c.in-len1-up.len_at_least (omega (arith, c.if-span-first.false, up_to))
