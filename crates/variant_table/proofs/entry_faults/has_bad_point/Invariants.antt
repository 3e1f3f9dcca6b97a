use Rattle.std.proofs.Common.{◌≡◌, false, take}
use Rattle.std.specs.List.{list_any}
use Rattle.ruleset_text.specs.Classes.{is_bad_point}
use Rattle.variant_table.proofs.entry_faults.has_bad_point.Given as goal

-- none before this one is such a point
abbrev pub invariant-loop-point : goal.invariant-loop-point
invariant-loop-point l = list_any (is_bad_point l.properties) (take l.point-index l.points) ≡ false
