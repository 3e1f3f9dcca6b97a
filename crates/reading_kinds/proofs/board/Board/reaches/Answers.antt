use Rattle.std.proofs.Common.{rules, subst, sym, ◌∙◌, ◌^◌, ◌*◌, ◌%◌, ◌<◌, ◌↔◌}
use Rattle.std.specs.Prelude.{IsTrue, not, nat_eq, bit_and}
use Rattle.std.proofs.lemmas.Grind.{get_or_default_zero}
use Rattle.reading_kinds.specs.inner.Cells.{Cells, Tells}
use Rattle.reading_kinds.specs.inner.Cells.Mark.{Reached}
use Rattle.reading_kinds.proofs.CellLemmas.{Tells-by_test}
use Rattle.reading_kinds.proofs.board.Board.reaches.Goals as goal

pub returns : goal.returns
returns c =
    let cells : Cells = record { size = c.self.inside.size; words = c.self.inside.words.items; reached = c.self.inside.reached.items } in
    subst (λ v. IsTrue (not (nat_eq (bit_and c.index.result.now (1 * 2 ^ c.args.place % 2 ^ 64)) 0)) ↔ Tells v c.args.column c.args.place Reached) c.self.view_is
    (Tells-by_test cells c.args.column c.args.place c.index.result.now (subst (λ v. c.args.column < v.size.columns) (sym c.self.view_is) c.requires.column) c.requires.place
    (c.index.ensures ∙ get_or_default_zero cells.reached c.args.column c.index.result.now (search rules)))
