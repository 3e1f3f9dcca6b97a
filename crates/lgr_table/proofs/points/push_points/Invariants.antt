use Rattle.std.proofs.Common.{◌≡◌, ◌++◌, map, take}
use Rattle.lgr_table.proofs.PointLemmas.{single}
use Rattle.lgr_table.proofs.points.push_points.Given as goal

-- those so far
abbrev pub invariant-loop-point : goal.invariant-loop-point
invariant-loop-point l = l.spans.items ≡ l.initial.spans.items ++ map single (take l.point-index l.points)
