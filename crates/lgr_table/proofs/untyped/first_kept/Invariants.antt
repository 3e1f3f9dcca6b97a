use Rattle.std.proofs.Common.{◌≡◌, false, map, take}
use Rattle.lgr_text.specs.Records.{entry}
use Rattle.lgr_table.specs.Entries.{keeps}
use Rattle.lgr_table.specs.Tables.{may_stand}
use Rattle.lgr_table.specs.inner.Wanted.{is_wanted}
use Rattle.lgr_table.proofs.untyped.first_kept.Given as goal

-- none before this one has such a variant
abbrev pub invariant-loop-entry : goal.invariant-loop-entry
invariant-loop-entry l = keeps (may_stand l.properties) (is_wanted l.wanted) (map entry (take l.entry-index l.entries)) ≡ false
