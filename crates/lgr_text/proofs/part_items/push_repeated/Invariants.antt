use Rattle.std.proofs.Common.{◌≡◌, ◌++◌, map}
use Rattle.label_patterns.specs.Trees.{pattern}
use Rattle.lgr_text.specs.inner.Items.{copies}
use Rattle.lgr_text.proofs.part_items.push_repeated.Given as goal

-- the copies so far
abbrev pub invariant-loop-time : goal.invariant-loop-time
invariant-loop-time l =
    map pattern l.items.items ≡ map pattern l.initial.items.items ++ copies l._time (map pattern l.others)
