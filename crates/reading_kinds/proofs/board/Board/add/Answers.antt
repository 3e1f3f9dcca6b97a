use Rattle.std.proofs.Common.{rules, ◌≡◌, subst, ap, ◌∙◌, ◌^◌, ◌*◌, ◌%◌, ◌<◌, get_or, set, bit_or, arith, length, sym}
use Rattle.std.proofs.lemmas.Grind.{get_or_default_zero}
use Rattle.std.proofs.lemmas.List.{get_or_default}
use Rattle.reading_kinds.specs.inner.Cells.{Cells, words_at}
use Rattle.reading_kinds.specs.inner.Columns.{Adds}
use Rattle.reading_kinds.proofs.CellLemmas.{Adds-more, Adds-first, both, nothing, cell_of, cell_below}
use Rattle.reading_kinds.proofs.board.Board.add.Goals as goal

pub returns-then-bits-place-ne0-clause-adds : goal.returns-then-bits-place-ne0-clause-adds
returns-then-bits-place-ne0-clause-adds c =
    let cells : Cells = record { size = c.self.inside.size; words = c.self.inside.words.items; reached = c.self.inside.reached.items } in
    let column : c.args.column < cells.size.columns = subst (λ v. c.args.column < v.size.columns) (sym c.self.view_is) c.requires.column in
    let place : c.args.place < cells.size.places = subst (λ v. c.args.place < v.size.places) (sym c.self.view_is) c.requires.place in
    let below : cell_of cells c.args.column c.args.place < length cells.words = cell_below cells c.args.column c.args.place (search rules) column place in
    let before : c.index-before.result.now ≡ words_at cells c.args.column c.args.place = c.index-before.ensures ∙ get_or_default cells.words (cell_of cells c.args.column c.args.place) c.index-before.result.now nothing below in
    subst (λ v. Adds v (record cells { words = set cells.words (cell_of cells c.args.column c.args.place) (both c.index-before.result.now c.args.words) }) c.args.column c.args.place c.args.words) c.self.view_is
    (subst (λ b. Adds cells (record cells { words = set cells.words (cell_of cells c.args.column c.args.place) (both b c.args.words) }) c.args.column c.args.place c.args.words) (sym before)
    (Adds-more cells c.args.column c.args.place c.args.words c.index-bits.result.now column c.requires.bit below
    (c.index-bits.ensures ∙ get_or_default_zero cells.reached c.args.column c.index-bits.result.now (search rules))
    (search rules)))

pub returns-else-bits-place-ne0-clause-adds : goal.returns-else-bits-place-ne0-clause-adds
returns-else-bits-place-ne0-clause-adds c =
    let cells : Cells = record { size = c.self.inside.size; words = c.self.inside.words.items; reached = c.self.inside.reached.items } in
    let column : c.args.column < cells.size.columns = subst (λ v. c.args.column < v.size.columns) (sym c.self.view_is) c.requires.column in
    let place : c.args.place < cells.size.places = subst (λ v. c.args.place < v.size.places) (sym c.self.view_is) c.requires.place in
    let below : cell_of cells c.args.column c.args.place < length cells.words = cell_below cells c.args.column c.args.place (search rules) column place in
    subst (λ v. Adds v (record cells { words = set cells.words (cell_of cells c.args.column c.args.place) c.args.words; reached = set cells.reached c.args.column (bit_or c.index-bits.result.now (1 * 2 ^ c.args.place % 2 ^ 64)) }) c.args.column c.args.place c.args.words) c.self.view_is
    (Adds-first cells c.args.column c.args.place c.args.words c.index-bits.result.now column c.requires.bit below
    (c.index-bits.ensures ∙ get_or_default_zero cells.reached c.args.column c.index-bits.result.now (search rules))
    (search rules)
    (λ t. grind (arith, t, c.if-bits-place-ne0.false)))
