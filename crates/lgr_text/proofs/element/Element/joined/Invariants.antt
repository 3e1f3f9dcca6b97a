use Rattle.std.proofs.Common.{◌≡◌, ◌++◌, ◌∷◌, [], map, vec_len}
use Rattle.lgr_text.specs.Nested.{nested}
use Rattle.lgr_text.specs.Records.{Joined, class}
use Rattle.lgr_text.proofs.element.Element.joined.Given as goal

-- the class has the sets that were taken
abbrev pub invariant-loop-set : goal.invariant-loop-set
invariant-loop-set l = nested (Joined l.operation) (map class l.sets.items ++ class l.class ∷ []) ≡ nested (Joined l.operation) (map class l.fn.sets.items)

abbrev pub decreases-loop-set : goal.decreases-loop-set
decreases-loop-set l = vec_len l.sets
