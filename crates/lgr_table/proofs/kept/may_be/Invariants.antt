use Rattle.std.proofs.Common.{◌≡◌, true, take}
use Rattle.std.specs.List.{list_all}
use Rattle.lgr_table.specs.Tables.{may_stand}
use Rattle.lgr_table.proofs.kept.may_be.Given as goal

-- all before this one are such points
abbrev pub invariant-loop-point : goal.invariant-loop-point
invariant-loop-point l = list_all (may_stand l.properties) (take l.point-index l.points) ≡ true
