use Rattle.std.proofs.Common.{◌≡◌, ◌++◌, List, map, drop}
use Rattle.variant_table.specs.Gaps.{pairs_of}
use Rattle.idn2_answers.specs.Said.{Found, finding_text}
use Rattle.idn2_output.specs.OutputLines.{OutputLine, outputs}
use Rattle.idn2_output.specs.Writing.{Writes}
use Rattle.idn2_cli.proofs.modes.check_table.write_pairs.Given as goal

-- the output lines so far are written, and those of the other pairs are to come
abbrev pub invariant-pairs : goal.invariant-pairs
invariant-pairs g l =
    record {
      so_far : List OutputLine;
      split : outputs (finding_text l.form) (map (Found l.finding) (pairs_of l.pairs)) ≡ so_far ++ outputs (finding_text l.form) (map (Found l.finding) (pairs_of (drop l.pair-index l.pairs)));
      output_lines : Writes
          l.initial.console
          l.console
          so_far;
    }
