use Rattle.std.proofs.Common.{◌≡◌, ◌+◌, ◌-◌}
use Rattle.std.specs.Prelude.{find}
use Rattle.std.specs.List.{range_with_len}
use Rattle.ruleset_text.specs.Classes.{is_bad_point}
use Rattle.variant_table.proofs.checks.first_bad.Given as goal

-- the first that is bad is still to be found
abbrev pub invariant-loop-offset : goal.invariant-loop-offset
invariant-loop-offset l = find (is_bad_point l.properties) (range_with_len (l.first + l.offset) (l.count - l.offset)) ≡ find (is_bad_point l.properties) (range_with_len l.first l.count)
