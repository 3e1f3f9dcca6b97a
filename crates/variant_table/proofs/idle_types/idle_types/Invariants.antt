use Rattle.std.proofs.Common.{◌≡◌, map, not, take}
use Rattle.std.specs.Prelude.{filter}
use Rattle.ruleset_text.specs.ActionForms.{action}
use Rattle.variant_table.specs.IdleTypes.{is_asked}
use Rattle.variant_table.proofs.idle_types.idle_types.Given as goal

-- those of the types so far
abbrev pub invariant-loop-name : goal.invariant-loop-name
invariant-loop-name l = l.idle.items ≡ filter (λ name. not (is_asked (map action l.actions) name)) (take l.name-index l.types)
