use Rattle.std.proofs.Common.{◌+◌, ◌-◌}
use Rattle.lgr_text.proofs.JoinLemmas.{IsJoinedBelow}
use Rattle.lgr_text.proofs.code_points.join.Given as goal

-- the spans so far
abbrev pub invariant-loop-first : goal.invariant-loop-first
invariant-loop-first l = IsJoinedBelow l.operation l.left l.right l.left_rest l.right_rest l.first l.spans.items

abbrev pub decreases-loop-first : goal.decreases-loop-first
decreases-loop-first l = 1114111 + 1 - l.first
