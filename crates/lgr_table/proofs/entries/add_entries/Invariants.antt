use Rattle.std.proofs.Common.{map, take}
use Rattle.lgr_text.specs.Records.{entry, file}
use Rattle.lgr_table.specs.Tables.{may_stand}
use Rattle.lgr_table.specs.inner.Steps.{AddsEntries}
use Rattle.lgr_table.proofs.EntryLemmas.{with_only}
use Rattle.lgr_table.proofs.entries.add_entries.Given as goal

-- those before this one
abbrev pub invariant-loop-entry : goal.invariant-loop-entry
invariant-loop-entry l =
    AddsEntries (may_stand l.initial.builder.definitions.properties)
    (with_only (file l.ruleset) (map entry (take l.entry-index l.entry-items))) l.numbers l.initial.builder l.builder
