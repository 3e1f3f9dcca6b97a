-- What a definition in memory is seen as: with patterns in place of trees.
use Rattle.label_patterns.specs.Trees.{pattern}
use Rattle.ruleset_text.specs.declared.definition.Definition as declared
use Rattle.ruleset_text.specs.declared.definition.Definition.TheVariants as variant
use Rattle.ruleset_text.specs.ActionForms.{action}
use Rattle.ruleset_text.specs.Definition.{Definition, VariantType, Set, Rule, Demand, Action}

abbrev pub definition : declared.Definition → Definition
definition (variant.VariantType name) = VariantType name
definition (variant.Set name spans) = Set name spans
definition (variant.Rule name contexts) = Rule name (pattern contexts)
definition (variant.Demand kind p) = Demand kind (pattern p)
definition (variant.Action a) = Action (action a)
