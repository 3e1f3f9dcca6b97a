-- The lines of a ruleset that define something: a type, a set, a rule, a demand or an action.
use Rattle.std.specs.Prelude.{◌≡◌, ℕ, ◌-◌, Ok, ◌++◌, length, Option, Some, None, List, [], ◌∷◌}
use Rattle.ruleset_text.specs.declared.fault.DefinitionFault.{DefinitionFault}
use Rattle.ruleset_text.specs.declared.fault.DefinitionFault.TheVariants as definitions
use Rattle.ruleset_text.specs.declared.keyword.Keyword.{Keyword}
use Rattle.ruleset_text.specs.Definition.{keyword_of}
use Rattle.ruleset_text.specs.Definitions.{Definitions, defined}
use Rattle.ruleset_text.specs.DefinitionOrder.{IsDefinitionFault}
use Rattle.ruleset_text.specs.Lexemes.{lexemes}
use Rattle.variant_table.specs.Canonical.{canonical_text, head_text}
use Rattle.variant_table.specs.declared.version.Version.{Version}
use Rattle.variant_table.specs.declared.version.Version.TheVariants.{One, Two, Three}
use Rattle.variant_table.specs.Entries.{TableValue}
use Rattle.variant_table.specs.Faults.{LineFault, Limit, Syntax, BadClass, NoSuchName, SameName}
use Rattle.variant_table.specs.Limits.{text_limit}

abbrev pub with_after : List (List ℕ) → Option Keyword → Option (Keyword × List (List ℕ))
with_after after None = None
with_after after (Some keyword) = Some (keyword, after)

-- the keyword with which the lexemes of a line begin, and those after it; versions 1 and 2 have none
abbrev pub keyword_in : Version → List (List ℕ) → Option (Keyword × List (List ℕ))
keyword_in One words = None
keyword_in Two words = None
keyword_in Three [] = None
keyword_in Three (word ∷ after) = with_after after (keyword_of word)

-- how many bytes the canonical text of the definitions may have beside that of the entries
abbrev pub room_for_definitions : TableValue → ℕ
room_for_definitions t = text_limit t.version - length (head_text t.version ++ canonical_text t.definitions t.entries)

-- the line defines something, without a fault: with it the definitions are these
abbrev pub Defines : TableValue → List ℕ → Definitions → Type 0
Defines t line definitions =
    (keyword : Keyword) × (after : List (List ℕ)) × (keyword_in t.version (lexemes line) ≡ Some (keyword, after))
    × (defined (room_for_definitions t) t.definitions keyword after ≡ Ok definitions)

-- what is told of a line with this fault in its definition; to lack memory is no fault of a line
abbrev pub line_fault : DefinitionFault → LineFault
line_fault definitions.Syntax = Syntax
line_fault definitions.Limit = Limit
line_fault definitions.NoSuchName = NoSuchName
line_fault definitions.BadClass = BadClass
line_fault definitions.SameName = SameName
line_fault definitions.Memory = Syntax

-- the line is to define something, and this is told of it: the first thing that is wrong with its definition
abbrev pub DefinesWrong : TableValue → List ℕ → LineFault → Type 0
DefinesWrong t line fault =
    (keyword : Keyword) × (after : List (List ℕ)) × (wrong : DefinitionFault)
    × (keyword_in t.version (lexemes line) ≡ Some (keyword, after))
    × IsDefinitionFault (room_for_definitions t) t.definitions keyword after wrong × (fault ≡ line_fault wrong)
