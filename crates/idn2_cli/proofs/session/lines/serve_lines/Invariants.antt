use Rattle.std.proofs.Common.{◌-◌, ◌^◌}
use Rattle.idn2_refusals.specs.Explaining.{explained_by}
use Rattle.idn2_cli.proofs.LineSteps.{SoFar}
use Rattle.idn2_cli.proofs.session.lines.serve_lines.Given as goal

abbrev pub invariant-lines : goal.invariant-lines
invariant-lines g l =
    record {
      so_far : SoFar l.form (explained_by l.explaining) (g.M.Answering.answer_of l.mode) l.initial.input l.input
          l.initial.console
          l.console
          l.has_refused;
    }

abbrev pub decreases-lines : goal.decreases-lines
decreases-lines g l = 2 ^ 32 - l.input.number
