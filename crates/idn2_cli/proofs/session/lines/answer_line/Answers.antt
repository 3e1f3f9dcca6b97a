use Rattle.std.proofs.Common.{ℕ, List, Option, sym, subst}
use Rattle.idn2_cli.specs.Memory.{BodyNeedsNone}
use Rattle.idn2_output.specs.Writing.{StopsForMemory}
use Rattle.idn2_cli.specs.inner.ServedLines.{result_of}
use Rattle.idn2_cli.proofs.session.lines.answer_line.Goals as goal

pub returns-in-Some-clause-begun : goal.returns-in-Some-clause-begun
returns-in-Some-clause-begun g c =
    subst (λ (body : Option (List ℕ)). StopsForMemory (BodyNeedsNone (g.M.Answering.goes_on c.args.mode.now) body) c.args.console.now c.answer.new.console (result_of c.answer.result)) (sym c.in-Some.ensures.body) c.answer.ensures.begun
