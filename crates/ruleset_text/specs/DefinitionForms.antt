-- What the form of a definition alone says of it, and what is made of one that isn't read from a line.
use Rattle.std.specs.Prelude.{◌≡◌, ℕ, ◌<◌, false, IsTrue, Some, Result, Ok, Err, length}
use Rattle.label_patterns.specs.Sets.{Rise}
use Rattle.ruleset_text.specs.declared.fault.DefinitionFault.{DefinitionFault}
use Rattle.ruleset_text.specs.declared.fault.DefinitionFault.TheVariants as fault
use Rattle.ruleset_text.specs.Actions.{IsAction}
use Rattle.ruleset_text.specs.Definition as definition
use Rattle.ruleset_text.specs.Definition.{Definition}
use Rattle.ruleset_text.specs.Definitions.{Definitions, with_definition}
use Rattle.ruleset_text.specs.Grammar.{Is, Whole}
use Rattle.ruleset_text.specs.Names.{is_name}
use Rattle.ruleset_text.specs.Rules.{has, is_rule_or_whole}
use Rattle.ruleset_text.specs.Signs as sign

-- its names are names, its pattern is of the grammar, a set has a span, and an action asks for no type twice
abbrev pub HasForm : Definition → Type 0
HasForm (definition.VariantType name) = IsTrue (is_name name)
HasForm (definition.Set name spans) = IsTrue (is_name name) × (0 < length spans) × Rise spans
HasForm (definition.Rule name p) = IsTrue (is_name name) × Is Whole p × IsTrue (is_rule_or_whole p)
HasForm (definition.Demand kind p) = Is Whole p × (has sign.Anchor p ≡ false)
HasForm (definition.Action a) = IsAction a

-- a definition was refused with this fault: it has no form, or the first thing that is wrong with it is this
abbrev pub Refused : ℕ → Definitions → Definition → DefinitionFault → Type 0
Refused limit d x fault.Memory = Unit {0}
Refused limit d x fault.Syntax = HasForm x → ⊥
Refused limit d x f = HasForm x × (with_definition limit d (Some x) ≡ Err f)

-- a definition was added, with which the definitions are these; or it was refused. The canonical text may have so many
-- bytes
abbrev pub Adds : {X : Type 0} → ℕ → Definitions → Definition → Result X DefinitionFault → Definitions → Type 0
Adds limit d x (Ok done) e = HasForm x × (with_definition limit d (Some x) ≡ Ok e)
Adds limit d x (Err f) e = Refused limit d x f
