use Rattle.std.proofs.Common.{◌≡◌, ℕ, List}
use Rattle.idn2_answers.specs.Listings.{variant_by}
use Rattle.idn2_answers.specs.Said.{said_text}
use Rattle.idn2_cli.specs.inner.Asked.{asked_line}
use Rattle.idn2_cli.specs.inner.Blocks.{disposition_by, field_in}
use Rattle.idn2_cli.specs.inner.Progress.{first_counts, progress_of, IsUnderWay, GoesOnWithoutMemory, lines_ahead}
use Rattle.idn2_cli.proofs.ListingProgress.{IsWritten}
use Rattle.idn2_cli.proofs.modes.block.write_lines.Given as goal

-- what the block still says is all but what is written
abbrev pub invariant-lines : goal.invariant-lines
invariant-lines g l =
    record {
      under_way : IsUnderWay (progress_of l.cursor l.judge l.counts);
      same_dispositions : (v : List ℕ) → disposition_by l.judge.dispositions v ≡ disposition_by l.fn.judge.dispositions v;
      written : IsWritten (said_text l.asked.form (asked_line l.asked))
          (lines_ahead (variant_by (field_in l.options l.fn.judge.dispositions)) (progress_of l.fn.cursor l.fn.judge (first_counts l.options)))
          (lines_ahead (variant_by (field_in l.options l.fn.judge.dispositions)) (progress_of l.cursor l.judge l.counts))
          l.fn.console
          l.console;
      no_memory : GoesOnWithoutMemory (progress_of l.fn.cursor l.fn.judge (first_counts l.options)) → GoesOnWithoutMemory (progress_of l.cursor l.judge l.counts);
    }

abbrev pub decreases-lines : goal.decreases-lines
decreases-lines g l = l.counts.tries
