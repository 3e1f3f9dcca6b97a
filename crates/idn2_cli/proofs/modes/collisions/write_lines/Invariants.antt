use Rattle.std.proofs.Common.{◌≡◌, ◌++◌, List, map, drop}
use Rattle.idn2_output.specs.OutputLines.{OutputLine}
use Rattle.idn2_output.specs.Writing.{Writes}
use Rattle.idn2_cli.specs.inner.Asked.{lines_to}
use Rattle.idn2_cli.specs.inner.FoundLabels.{said_of}
use Rattle.idn2_cli.proofs.modes.collisions.write_lines.Given as goal

-- the lines so far are written, and those of the other labels are to come
abbrev pub invariant-lines : goal.invariant-lines
invariant-lines g l =
    record {
      so_far : List OutputLine;
      split : lines_to l.asked (map (said_of l.registered) l.found) ≡ so_far ++ lines_to l.asked (map (said_of l.registered) (drop l.collision-index l.found));
      output_lines : Writes l.initial.console l.console so_far;
    }
