use Rattle.std.proofs.Common.{◌≡◌, false, map, take}
use Rattle.lgr_text.specs.Records.{entry}
use Rattle.lgr_text.specs.Repertoire.{has_types}
use Rattle.lgr_table.proofs.untyped.have_types.Given as goal

-- none before this one has a variant with a type
abbrev pub invariant-loop-entry : goal.invariant-loop-entry
invariant-loop-entry l = has_types (map entry (take l.entry-index l.entries)) ≡ false
