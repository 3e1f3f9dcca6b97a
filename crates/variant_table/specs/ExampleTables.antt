-- Rulesets for worked examples.
use Rattle.std.specs.Prelude.{Option, Some, List}
use Rattle.label_patterns.specs.declared.condition.Condition.{Condition}
use Rattle.label_patterns.specs.declared.condition.ConditionKind.TheVariants.{When, Unless}
use Rattle.label_patterns.specs.declared.span.Span.{Span}
use Rattle.label_patterns.specs.Patterns.{Pattern}
use Rattle.ruleset_text.specs.Definitions.{Demand, nothing_defined}
use Rattle.idn_class.specs.declared.properties.Properties.TheVariants.{Profile}
use Rattle.variant_table.specs.declared.version.Version.TheVariants.{Three}
use Rattle.variant_table.specs.Entries.{Entry, TableValue, table_of}

-- a ruleset of these sets, rules and demands
abbrev pub table_with : List (List Span) → List Pattern → List Demand → List Entry → TableValue
table_with sets rules demands entries =
    table_of Three (record (nothing_defined Profile) { sets = sets; rules = rules; demands = demands }) entries

-- the condition on the first rule
abbrev pub when_first : Option Condition
when_first = Some (record { kind = When; rule = 0 })

abbrev pub unless_first : Option Condition
unless_first = Some (record { kind = Unless; rule = 0 })
