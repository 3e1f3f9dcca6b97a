-- The canonical text of a pattern, of the spans of a set, and of a definition.
use Rattle.std.specs.Prelude.{◌≡◌, ℕ, ◌<◌, ◌/◌, ◌%◌, nat_lt, ◌==◌, Bool, true, false, List, [], ◌∷◌, ◌++◌, length}
use Rattle.std.specs.Prelude.{slice_index_or, codes, IsTrue, if◌then◌else◌}
use Rattle.std.specs.List.{AllByRecursion}
use Rattle.idn_text.specs.Points.{four_digits, hex_digit, is_scalar_value}
use Rattle.label_patterns.specs.declared.span.Span.{Span}
use Rattle.label_patterns.specs.Patterns.{Pattern, Point, Set, Any, Start, End, Anchor, Group, Optional, Many, Then}
use Rattle.label_patterns.specs.Patterns.{Either}
use Rattle.label_patterns.specs.Rules.{is_context_rule}
use Rattle.ruleset_text.specs.declared.token.Token.{Token}
use Rattle.ruleset_text.specs.Actions.{action_text}
use Rattle.ruleset_text.specs.Definition as definition
use Rattle.ruleset_text.specs.Definition.{Definition, demand_word}
use Rattle.ruleset_text.specs.Lexemes.{is_word_byte}
use Rattle.ruleset_text.specs.Tokens.{token_of}

-- a code point by four digits, or by five or six where it needs them
unfoldable pub point_text : ℕ → List ℕ
point_text c =
    if nat_lt c 65536 then four_digits c else
    if nat_lt c 1048576 then hex_digit (c / 65536 % 16) ∷ four_digits c else
    hex_digit (c / 1048576 % 16) ∷ hex_digit (c / 65536 % 16) ∷ four_digits c

-- '@' and the name of the set of this number
abbrev pub set_text : List (List ℕ) → ℕ → List ℕ
set_text names n = 64 ∷ slice_index_or names n []

-- one blank between items and on both sides of '/'; none next to parentheses within them, none before '?' and '*'
abbrev pub pattern_text : List (List ℕ) → Pattern → List ℕ
pattern_text names (Point c) = point_text c
pattern_text names (Set n) = set_text names n
pattern_text names Any = 46 ∷ []
pattern_text names Start = 94 ∷ []
pattern_text names End = 36 ∷ []
pattern_text names Anchor = 95 ∷ []
pattern_text names (Group p) = 40 ∷ (pattern_text names p ++ 41 ∷ [])
pattern_text names (Optional p) = pattern_text names p ++ 63 ∷ []
pattern_text names (Many p) = pattern_text names p ++ 42 ∷ []
pattern_text names (Then p q) = pattern_text names p ++ 32 ∷ pattern_text names q
pattern_text names (Either p q) = pattern_text names p ++ 32 ∷ 47 ∷ 32 ∷ pattern_text names q

-- a span: its ends, or the code point that it is
abbrev pub span_text : Span → List ℕ
span_text s = if s.first == s.last then point_text s.first else point_text s.first ++ 46 ∷ 46 ∷ point_text s.last

-- the spans of a set, each after a blank
abbrev pub spans_text : List Span → List ℕ
spans_text [] = []
spans_text (s ∷ spans) = 32 ∷ (span_text s ++ spans_text spans)

-- the keyword of a context rule, and that of a whole-label rule
abbrev pub rule_word : Bool → List ℕ
rule_word true = codes "%rule "
rule_word false = codes "%whole "

-- the canonical line of a definition, without its line feed: one blank between its parts
abbrev pub definition_text : List (List ℕ) → Definition → List ℕ
definition_text names (definition.VariantType name) = codes "%type " ++ name
definition_text names (definition.Set name spans) = codes "%set " ++ name ++ spans_text spans
definition_text names (definition.Rule name p) = rule_word (is_context_rule p) ++ (name ++ 32 ∷ pattern_text names p)
definition_text names (definition.Demand kind p) = demand_word kind ++ 32 ∷ pattern_text names p
definition_text names (definition.Action a) = codes "%action " ++ action_text a

-- the word is one word, and its token is this one
abbrev pub IsWordOf : List (List ℕ) → Token → List ℕ → Type 0
IsWordOf names t word =
    (0 < length word) × AllByRecursion (λ c. IsTrue (is_word_byte c)) word × (token_of names word ≡ t)

-- each point of the pattern is a scalar value
abbrev pub HasPoints : Pattern → Type 0
HasPoints (Point c) = IsTrue (is_scalar_value c)
HasPoints (Group p) = HasPoints p
HasPoints (Optional p) = HasPoints p
HasPoints (Many p) = HasPoints p
HasPoints (Then p q) = HasPoints p × HasPoints q
HasPoints (Either p q) = HasPoints p × HasPoints q
HasPoints (Set n) = Unit {0}
HasPoints Any = Unit {0}
HasPoints Start = Unit {0}
HasPoints End = Unit {0}
HasPoints Anchor = Unit {0}
