use Rattle.reading_kinds.proofs.WordsLemmas.{IsRight-begin}
use Rattle.reading_kinds.proofs.board.Board.begin.Goals as goal

pub returns-clause-right : goal.returns-clause-right
returns-clause-right c substitutions label = IsRight-begin c.args.self.now c.clear.new.self c.add.new.self c.clear.ensures.clears c.add.ensures.adds substitutions label
