use Rattle.std.proofs.Common.{◌≡◌, false, map, take}
use Rattle.std.specs.List.{list_any}
use Rattle.lgr_text.specs.Records.{source, variant}
use Rattle.lgr_text.specs.Repertoire.{sources}
use Rattle.lgr_table.specs.Tables.{may_stand}
use Rattle.lgr_table.specs.inner.Wanted.{keeps_with}
use Rattle.lgr_table.proofs.untyped.kept_in.Given as goal

-- none before this one is kept and wanted
abbrev pub invariant-loop-variant : goal.invariant-loop-variant
invariant-loop-variant l =
    list_any (λ v. keeps_with (may_stand l.properties) l.wanted v (sources (source l.entry.source)))
    (map variant (take l.variant-index l.variant-items)) ≡ false
