-- What a demand in memory is seen as: with a pattern in place of a tree.
use Rattle.label_patterns.specs.Trees.{pattern}
use Rattle.ruleset_text.specs.declared.definitions.Demand as declared
use Rattle.ruleset_text.specs.Definitions.{Demand}

abbrev pub demand : declared.Demand → Demand
demand d = record { kind = d.kind; pattern = pattern d.pattern }
