use Rattle.std.proofs.Common.{◌≡◌, ◌++◌, map, drop}
use Rattle.ruleset_text.specs.Canonical.{definition_text}
use Rattle.ruleset_text.specs.Definition as definition
use Rattle.ruleset_text.specs.Definitions.{lines_text, named}
use Rattle.ruleset_text.proofs.definitions.Definitions.push_sets.Given as goal

-- what is written so far, and the lines that are left
abbrev pub invariant-loop-number : goal.invariant-loop-number
invariant-loop-number l =
    l.out.items ++ lines_text (map (definition_text l.self.set_names) (named definition.Set (drop l.number l.names) (drop l.number l.sets)))
    ≡ l.fn.out.items ++ lines_text (map (definition_text l.self.set_names) (named definition.Set l.self.set_names l.self.sets))
