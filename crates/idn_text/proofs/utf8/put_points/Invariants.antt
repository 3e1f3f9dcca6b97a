use Rattle.std.proofs.Common.{◌≡◌, ◌≤◌, ◌+◌, ◌*◌, ◌++◌, length, take}
use Rattle.idn_text.specs.Points.{utf8_of}
use Rattle.idn_text.proofs.utf8.put_points.Given as goal

-- the code points so far are written, each in at most four bytes
abbrev pub invariant-loop-point : goal.invariant-loop-point
invariant-loop-point l =
    (take l.end l.room ≡ take l.at l.initial.room ++ utf8_of (take l.point-index l.points))
    × (l.end ≤ l.at + 4 * l.point-index)
    × (length l.room ≡ length l.initial.room)
