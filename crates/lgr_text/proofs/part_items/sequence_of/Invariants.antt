use Rattle.std.proofs.Common.{◌≡◌, ◌++◌, ◌∷◌, [], map, vec_len}
use Rattle.label_patterns.specs.Trees.{pattern}
use Rattle.lgr_text.specs.inner.Items.{in_sequence}
use Rattle.lgr_text.proofs.part_items.sequence_of.Given as goal

-- the tree has the items that were taken
abbrev pub invariant-loop-item : goal.invariant-loop-item
invariant-loop-item l = in_sequence (map pattern l.items.items ++ pattern l.tree ∷ []) ≡ in_sequence (map pattern l.fn.items.items)

abbrev pub decreases-loop-item : goal.decreases-loop-item
decreases-loop-item l = vec_len l.items
