use Rattle.std.proofs.lemmas.Result.{err_from_is_err_and}
use Rattle.idn2_output.proofs.WrittenOutputLines.{stops_first}
use Rattle.idn2_cli.proofs.modes.print_table.print_table.Goals as goal

pub returns-in_err-text-clause-written : goal.returns-in_err-text-clause-written
returns-in_err-text-clause-written g c =
    let p = err_from_is_err_and c.from_residual.result c.from_residual.ensures.1 in
    rw (p.1, p.2) (stops_first _ _)
