use Rattle.std.proofs.Common.{rules}
use Rattle.reading_kinds.proofs.CellLemmas.{AddsAfter-words}
use Rattle.reading_kinds.proofs.board.Board.add_after.Goals as goal

pub returns-clause-adds : goal.returns-clause-adds
returns-clause-adds c =
    AddsAfter-words c.args.self.now c.add.new.self c.args.from.column c.args.from.place c.args.kinds c.args.to.column c.args.to.place
    c.words_at-before.result (search rules) c.requires.reached c.words_at-before.ensures c.add.ensures.adds
