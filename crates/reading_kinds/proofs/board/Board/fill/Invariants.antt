use Rattle.std.proofs.Common.{◌≡◌, ◌-◌}
use Rattle.reading_kinds.specs.inner.Cells.{IsRight}
use Rattle.reading_kinds.proofs.board.Board.fill.Given as goal

abbrev pub invariant-loop-column : goal.invariant-loop-column
invariant-loop-column l = IsRight l.substitutions l.label l.self (l.column - 1) × (l.self.size ≡ l.fn.self.size)
