-- Types of a ruleset's own that no action names: what has such a type is never refused or blocked for it.
use Rattle.std.specs.Prelude.{ℕ, Bool, not, Option, Some, None, List, [], filter}
use Rattle.std.specs.List.{list_any}
use Rattle.ruleset_text.specs.Actions.{NamedAction, NamedTrigger}
use Rattle.ruleset_text.specs.Definitions.{Definitions}
use Rattle.ruleset_text.specs.Names.{is_one_of}

-- the types that an action asks for (RFC 7940, section 7.2)
abbrev pub asked_types : Option NamedTrigger → List (List ℕ)
asked_types None = []
asked_types (Some t) = t.types

-- some action asks for the type
abbrev pub is_asked : List NamedAction → List ℕ → Bool
is_asked actions name = list_any (λ a. is_one_of (asked_types a.trigger) name) actions

-- the types that the ruleset defines itself and that no action asks for, in the order of their lines
abbrev pub idle_types : Definitions → List (List ℕ)
idle_types d = filter (λ name. not (is_asked d.actions name)) d.types
