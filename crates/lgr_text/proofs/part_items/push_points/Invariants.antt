use Rattle.std.proofs.Common.{◌≡◌, ◌++◌, map, take}
use Rattle.label_patterns.specs.Patterns.{Point}
use Rattle.label_patterns.specs.Trees.{pattern}
use Rattle.lgr_text.proofs.part_items.push_points.Given as goal

-- the code points so far
abbrev pub invariant-loop-point : goal.invariant-loop-point
invariant-loop-point l =
    map pattern l.items.items ≡ map pattern l.initial.items.items ++ map Point (take l.point-index l.points)
