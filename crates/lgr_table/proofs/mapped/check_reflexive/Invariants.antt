use Rattle.std.proofs.Common.{map, take}
use Rattle.lgr_text.specs.Records.{variant}
use Rattle.lgr_text.specs.Repertoire.{is_reflexive}
use Rattle.lgr_table.proofs.CalledLemmas.{HasOne}
use Rattle.lgr_table.proofs.mapped.check_reflexive.Given as goal

-- of those before this one at most one is the source, and it has no condition
abbrev pub invariant-loop-variant : goal.invariant-loop-variant
invariant-loop-variant l = HasOne (is_reflexive l.source) (map variant (take l.variant-index l.variant-items)) l.found
