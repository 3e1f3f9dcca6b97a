-- What a step of reading an entry leaves in place of the state before it.
use Rattle.std.specs.Prelude.{Bool, true, false, Option, Some, None}
use Rattle.ruleset_text.specs.declared.entry_reading.Phase.{Phase}
use Rattle.ruleset_text.specs.declared.entry_reading.Phase.TheVariants as phase
use Rattle.ruleset_text.specs.EntrySteps.{State}

-- the state after a lexeme that may stand there; none after another one
abbrev pub taken_as : Bool → State → Option State
taken_as true s = Some s
taken_as false s = None

-- the name of a type or of a rule stands next
abbrev pub is_before_name : Phase → Bool
is_before_name phase.As = true
is_before_name phase.When = true
is_before_name phase.Unless = true
is_before_name p = false

-- a word does, after a code point or a name
abbrev pub is_before_word : Phase → Bool
is_before_word phase.Point = true
is_before_word phase.Last = true
is_before_word phase.VariantType = true
is_before_word phase.Rule = true
is_before_word p = false
