use Rattle.idn2_output.proofs.WrittenOutputLines.{writes_output, stops_output}
use Rattle.idn2_output.proofs.console.Console.output.Goals as goal
use Rattle.idn2_output.proofs.console.Console.output.Goals.{in-Ok, in-Err}

pub returns-clause-written : goal.returns-clause-written
returns-clause-written g c = rw (← c.self.view_is) (elim c.match-write_answer.branch [
  | in-Ok w ↦ rw w.result-is (writes_output _ _ c.args.text.now w.in-Ok.ensures.whole)
  | in-Err w ↦ rw w.result-is (stops_output _ _ c.args.text.now w.in-Err._fault.taken w.in-Err.ensures.part)
])
