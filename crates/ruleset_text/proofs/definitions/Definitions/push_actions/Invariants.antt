use Rattle.std.proofs.Common.{◌≡◌, ◌++◌, map, drop}
use Rattle.ruleset_text.specs.ActionForms as forms
use Rattle.ruleset_text.specs.Canonical.{definition_text}
use Rattle.ruleset_text.specs.Definition as definition
use Rattle.ruleset_text.specs.Definitions.{lines_text}
use Rattle.ruleset_text.proofs.definitions.Definitions.push_actions.Given as goal

-- what is written so far, and the lines that are left
abbrev pub invariant-loop-action : goal.invariant-loop-action
invariant-loop-action l =
    l.out.items ++ lines_text (map (definition_text l.self.set_names) (map definition.Action (map forms.action (drop l.action-index l.actions))))
    ≡ l.fn.out.items ++ lines_text (map (definition_text l.self.set_names) (map definition.Action l.self.actions))
