use Rattle.reading_kinds.proofs.TakenLemmas.{PlacesTaken}
use Rattle.reading_kinds.proofs.board.Board.take_count.Given as goal

abbrev pub invariant-loop-left : goal.invariant-loop-left
invariant-loop-left l = PlacesTaken l.substitutions l.label l.fn.self l.self l.column l.count l.left

abbrev pub decreases-loop-left : goal.decreases-loop-left
decreases-loop-left l = l.left
