use Rattle.reading_kinds.proofs.TakenLemmas.{CountsTaken}
use Rattle.reading_kinds.proofs.board.Board.fill_column.Given as goal

abbrev pub invariant-loop-count : goal.invariant-loop-count
invariant-loop-count l = CountsTaken l.substitutions l.label l.initial.self l.self l.column l.count
