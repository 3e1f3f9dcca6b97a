use Rattle.std.proofs.Common.{map, take}
use Rattle.std.specs.List.{filter_map}
use Rattle.lgr_text.specs.Records.{action}
use Rattle.lgr_text.specs.Demands.{rule_alone}
use Rattle.lgr_table.specs.inner.Steps.{AddsDemands}
use Rattle.lgr_table.proofs.actions.define_demands.Given as goal

-- those so far
abbrev pub invariant-loop-action : goal.invariant-loop-action
invariant-loop-action l = AddsDemands l.numbers (filter_map rule_alone (map action (take l.action-index l.actions))) l.initial.builder l.builder
