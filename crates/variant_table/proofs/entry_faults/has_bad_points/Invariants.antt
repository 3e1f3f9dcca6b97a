use Rattle.std.proofs.Common.{◌≡◌, false, take}
use Rattle.std.specs.List.{list_any}
use Rattle.ruleset_text.specs.EntryForms.{mapped}
use Rattle.variant_table.specs.Conditions.{has_bad_point}
use Rattle.variant_table.proofs.entry_faults.has_bad_points.Given as goal

-- none before this one has such a point
abbrev pub invariant-loop-one : goal.invariant-loop-one
invariant-loop-one l = list_any (λ m. has_bad_point l.properties (mapped m).points) (take l.one-index l.mapped) ≡ false
