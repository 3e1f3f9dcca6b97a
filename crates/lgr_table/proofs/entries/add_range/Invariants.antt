use Rattle.lgr_text.specs.Records.{entry}
use Rattle.lgr_table.specs.Tables.{may_stand}
use Rattle.lgr_table.specs.inner.EntrySteps.{AddsSources}
use Rattle.lgr_table.proofs.EntryLemmas.{singles}
use Rattle.lgr_table.proofs.entries.add_range.Given as goal

-- the code points before this one
abbrev pub invariant-loop-offset : goal.invariant-loop-offset
invariant-loop-offset l =
    AddsSources (may_stand l.initial.builder.definitions.properties) l.numbers (entry l.entry) (singles l.fn.span.first l.offset) l.initial.builder l.builder
