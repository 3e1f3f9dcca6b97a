use Rattle.std.proofs.Common.{rules, subst}
use Rattle.reading_kinds.specs.inner.Cells.{Cells}
use Rattle.reading_kinds.specs.inner.Columns.{Clears}
use Rattle.std.proofs.Common.{set}
use Rattle.reading_kinds.proofs.CellLemmas.{Clears-set}
use Rattle.reading_kinds.proofs.board.Board.clear.Goals as goal

pub returns-clause-clears : goal.returns-clause-clears
returns-clause-clears c =
    let cells : Cells = record { size = c.self.inside.size; words = c.self.inside.words.items; reached = c.self.inside.reached.items } in
    subst (λ v. Clears v (record cells { reached = set cells.reached c.args.column 0 }) c.args.column) c.self.view_is
    (Clears-set cells c.args.column (search rules))
