use Rattle.std.proofs.Common.{map, take}
use Rattle.std.specs.List.{flat_map}
use Rattle.lgr_text.specs.Records.{variant}
use Rattle.lgr_text.specs.Names.{asked}
use Rattle.lgr_table.specs.inner.Steps.{AreAmong}
use Rattle.lgr_table.proofs.entries.check_rules_of_variants.Given as goal

-- those of the variants before this one
abbrev pub invariant-loop-variant : goal.invariant-loop-variant
invariant-loop-variant l = AreAmong l.numbers.rules (flat_map (λ v. asked v.condition) (map variant (take l.variant-index l.variants)))
