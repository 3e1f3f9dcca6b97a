use Rattle.std.proofs.Common.{◌≡◌, ◌++◌, map}
use Rattle.label_patterns.specs.Trees.{pattern}
use Rattle.lgr_text.specs.inner.Items.{turned}
use Rattle.lgr_text.proofs.part_items.push_turned.Given as goal

-- the items so far
abbrev pub invariant-loop-item : goal.invariant-loop-item
invariant-loop-item l =
    map pattern l.items.items ≡ map pattern l.initial.items.items ++ map turned (map pattern l.yielded)
