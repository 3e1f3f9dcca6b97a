use Rattle.std.proofs.Common.{◌≡◌, map, None, take}
use Rattle.std.specs.List.{find}
use Rattle.lgr_text.specs.Records.{variant}
use Rattle.lgr_text.specs.Repertoire.{is_reflexive}
use Rattle.lgr_table.proofs.mapped.reflexive_type.Given as goal

-- none before this one is the source
abbrev pub invariant-loop-variant : goal.invariant-loop-variant
invariant-loop-variant l = find (is_reflexive l.source) (map variant (take l.variant-index l.variants)) ≡ None
