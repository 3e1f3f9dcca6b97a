use Rattle.std.proofs.Common.{◌≡◌, ◌++◌, List, map, drop}
use Rattle.idn2_answers.specs.Said.{Idle, finding_text}
use Rattle.idn2_output.specs.OutputLines.{OutputLine, outputs}
use Rattle.idn2_output.specs.Writing.{Writes}
use Rattle.idn2_cli.proofs.modes.check_table.write_idle_types.Given as goal

-- the output lines so far are written, and those of the other types are to come
abbrev pub invariant-names : goal.invariant-names
invariant-names g l =
    record {
      so_far : List OutputLine;
      split : outputs (finding_text l.form) (map Idle l.names) ≡ so_far ++ outputs (finding_text l.form) (map Idle (drop l.name-index l.names));
      output_lines : Writes
          l.initial.console
          l.console
          so_far;
    }
