use Rattle.std.proofs.Common.{◌≡◌, ◌++◌, map, drop}
use Rattle.ruleset_text.specs.Canonical.{definition_text}
use Rattle.ruleset_text.specs.Definition as definition
use Rattle.ruleset_text.specs.Definitions.{lines_text}
use Rattle.ruleset_text.proofs.definitions.Definitions.push_types.Given as goal

-- what is written so far, and the lines that are left
abbrev pub invariant-loop-name : goal.invariant-loop-name
invariant-loop-name l =
    l.out.items ++ lines_text (map (definition_text l.self.set_names) (map definition.VariantType (drop l.name-index l.types)))
    ≡ l.fn.out.items ++ lines_text (map (definition_text l.self.set_names) (map definition.VariantType l.self.types))
