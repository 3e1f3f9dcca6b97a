use Rattle.reading_kinds.proofs.TakenLemmas.{TakenUpTo}
use Rattle.reading_kinds.proofs.board.Board.take_place.Given as goal

abbrev pub invariant-loop-number : goal.invariant-loop-number
invariant-loop-number l = TakenUpTo l.substitutions l.label l.fn.self l.self l.column l.count l.place l.number
