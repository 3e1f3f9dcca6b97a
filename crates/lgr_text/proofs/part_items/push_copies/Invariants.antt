use Rattle.std.proofs.Common.{◌≡◌, ◌++◌, map, take}
use Rattle.label_patterns.specs.Trees.{pattern}
use Rattle.lgr_text.proofs.part_items.push_copies.Given as goal

-- the copies so far
abbrev pub invariant-loop-other : goal.invariant-loop-other
invariant-loop-other l =
    map pattern l.items.items ≡ map pattern l.initial.items.items ++ map pattern (take l.other-index l.others)
