use Rattle.std.proofs.Common.{◌≡◌, map, take}
use Rattle.ruleset_text.specs.ActionForms as held
use Rattle.valid_labels.specs.Actions.{action_of}
use Rattle.valid_labels.proofs.actions.actions_of.Given as goal

-- the actions so far
abbrev pub invariant-loop-named : goal.invariant-loop-named
invariant-loop-named l = l.actions.items ≡ map (action_of l.definitions) (map held.action (take l.named-index l.named_actions))
