use Rattle.std.proofs.Common.{◌≡◌, ◌++◌, map, drop}
use Rattle.ruleset_text.specs.Canonical.{definition_text}
use Rattle.ruleset_text.specs.Definition as definition
use Rattle.ruleset_text.specs.Definitions.{lines_text}
use Rattle.ruleset_text.specs.DemandTrees as trees
use Rattle.ruleset_text.proofs.definitions.Definitions.push_demands.Given as goal

-- what is written so far, and the lines that are left
abbrev pub invariant-loop-demand : goal.invariant-loop-demand
invariant-loop-demand l =
    l.out.items ++ lines_text (map (definition_text l.self.set_names) (map (λ e. definition.Demand e.kind e.pattern) (map trees.demand (drop l.demand-index l.demands))))
    ≡ l.fn.out.items ++ lines_text (map (definition_text l.self.set_names) (map (λ e. definition.Demand e.kind e.pattern) l.self.demands))
