use Rattle.reading_kinds.proofs.CellLemmas.{bit_test}
use Rattle.reading_kinds.proofs.board.Words.lacks.Goals as goal

pub returns : goal.returns
returns c = bit_test c.args.self.lacks c.args.kind c.requires
