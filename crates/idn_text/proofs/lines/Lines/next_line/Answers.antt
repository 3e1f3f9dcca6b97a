use Rattle.std.proofs.lemmas.Result.{err_from_is_err_and}
use Rattle.idn_text.proofs.lines.Lines.next_line.Goals as goal

pub returns-in_err-advance-clause-lines : goal.returns-in_err-advance-clause-lines
returns-in_err-advance-clause-lines g c start given lines has =
    let p = err_from_is_err_and c.from_residual.result c.from_residual.ensures.1 in
    rw p.1 (c.in_err-advance.ensures.lines start given lines has)
