use Rattle.std.proofs.Common.{◌≡◌, false, map, take}
use Rattle.std.specs.Prelude.{is_some}
use Rattle.std.specs.List.{list_any}
use Rattle.lgr_text.specs.Records.{variant}
use Rattle.lgr_table.proofs.untyped.has_types.Given as goal

-- none before this one has a type
abbrev pub invariant-loop-variant : goal.invariant-loop-variant
invariant-loop-variant l = list_any (λ v. is_some v.type_name) (map variant (take l.variant-index l.variants)) ≡ false
