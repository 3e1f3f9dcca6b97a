use Rattle.std.proofs.Common.{◌≡◌, ◌++◌, map, drop}
use Rattle.label_patterns.specs.Trees.{pattern}
use Rattle.ruleset_text.specs.Canonical.{definition_text}
use Rattle.ruleset_text.specs.Definition as definition
use Rattle.ruleset_text.specs.Definitions.{lines_text, named}
use Rattle.ruleset_text.proofs.definitions.Definitions.push_rules.Given as goal

-- what is written so far, and the lines that are left
abbrev pub invariant-loop-number : goal.invariant-loop-number
invariant-loop-number l =
    l.out.items ++ lines_text (map (definition_text l.self.set_names) (named definition.Rule (drop l.number l.names) (map pattern (drop l.number l.rules))))
    ≡ l.fn.out.items ++ lines_text (map (definition_text l.self.set_names) (named definition.Rule l.self.rule_names l.self.rules))
