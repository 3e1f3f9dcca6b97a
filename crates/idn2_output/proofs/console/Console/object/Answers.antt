use Rattle.idn2_output.specs.OutputLines.{Output}
use Rattle.idn2_output.proofs.WrittenOutputLines.{emits_as, writes_output, stops_output}
use Rattle.idn2_output.proofs.console.Console.object.Goals as goal
use Rattle.idn2_output.proofs.console.Console.object.Goals.{in-Ok, in-Err}

pub returns-clause-written : goal.returns-clause-written
returns-clause-written g c =
    emits_as _ _ Output _ _ c.match-write_line.result c.write_object-line.ensures
    (rw (← c.self.view_is) (elim c.match-write_line.branch [
      | in-Ok w ↦ rw w.result-is (writes_output _ _ c.write_object-line.result.now w.in-Ok.ensures.whole)
      | in-Err w ↦ rw w.result-is (stops_output _ _ c.write_object-line.result.now w.in-Err._fault.taken w.in-Err.ensures.part)
    ]))
