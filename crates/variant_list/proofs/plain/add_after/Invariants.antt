use Rattle.std.proofs.Common.{◌≡◌, ◌++◌}
use Rattle.variant_list.proofs.PlainListerSteps.{HasAdded}
use Rattle.variant_list.specs.LabelSet.{labels_of}
use Rattle.variant_list.proofs.plain.add_after.Given as goal

-- the beginning with each of the endings so far was added
abbrev pub invariant-loop-ending : goal.invariant-loop-ending
invariant-loop-ending l = HasAdded (λ v q. q ≡ l.beginning ++ v.items) l.endings.keys l.ending-iterator (labels_of l.fn.labels) (labels_of l.labels)
