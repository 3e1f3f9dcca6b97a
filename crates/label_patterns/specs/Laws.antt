-- Laws of patterns.
use Rattle.std.specs.Prelude.{ℕ, ◌≤◌, ◌↔◌, ◌⊎◌, IsTrue, List, ◌++◌, length}
use Rattle.std.specs.List.{AllByRecursion}
use Rattle.label_patterns.specs.declared.span.Span.{Span}
use Rattle.label_patterns.specs.Patterns.{Pattern, Point, Set, Any, Start, End, Anchor, Group, Optional, Many, Then}
use Rattle.label_patterns.specs.Patterns.{Either}
use Rattle.label_patterns.specs.Matches.{Seen, Matches}
use Rattle.label_patterns.specs.Rules.{branches, is_anchor, is_context_rule, EndsBefore}

-- the pattern doesn't ask for the end of the label
abbrev pub IgnoresEnd : Pattern → Type 0
IgnoresEnd End = ⊥
IgnoresEnd (Group p) = IgnoresEnd p
IgnoresEnd (Optional p) = IgnoresEnd p
IgnoresEnd (Many p) = IgnoresEnd p
IgnoresEnd (Then p q) = IgnoresEnd p × IgnoresEnd q
IgnoresEnd (Either p q) = IgnoresEnd p × IgnoresEnd q
IgnoresEnd (Point c) = Unit {0}
IgnoresEnd (Set n) = Unit {0}
IgnoresEnd Any = Unit {0}
IgnoresEnd Start = Unit {0}
IgnoresEnd Anchor = Unit {0}

-- a label under sets
abbrev pub seen : List (List Span) → List ℕ → Seen
seen sets label = record { sets = sets; label = label }

-- a part of a label matches a pattern that doesn't ask for the end exactly if it matches it with whatever follows the
-- label: a label that a 'never' pattern refuses for a part of it is refused with whatever follows
abbrev pub MatchesStay : Type 0
MatchesStay =
    (p : Pattern) (sets : List (List Span)) (label more : List ℕ) (i j : ℕ) → IgnoresEnd p → j ≤ length label →
    Matches (seen sets label) p i j ↔ Matches (seen sets (label ++ more)) p i j

-- what stands before '_' in a context doesn't ask for the end of the label
abbrev pub IgnoresEndBefore : Pattern → Type 0
IgnoresEndBefore (Then p q) = IsTrue (is_anchor p) ⊎ (IgnoresEnd p × IgnoresEndBefore q)
IgnoresEndBefore p = Unit {0}

-- no context of the rule does
abbrev pub ContextsIgnoreEnd : Pattern → Type 0
ContextsIgnoreEnd rule = IsTrue (is_context_rule rule) → AllByRecursion IgnoresEndBefore (branches rule)

-- what stands before a place of a label depends on the code points before it alone
abbrev pub BeforeStays : Type 0
BeforeStays =
    (context : Pattern) (sets : List (List Span)) (label more : List ℕ) (i : ℕ) → IgnoresEndBefore context
    → i ≤ length label →
    EndsBefore (seen sets label) context i ↔ EndsBefore (seen sets (label ++ more)) context i

-- a pattern matches no part that ends before it begins, or after the label's end
abbrev pub MatchesParts : Type 0
MatchesParts =
    (p : Pattern) (s : Seen) (i j : ℕ) → Matches s p i j → (i ≤ j) × (i ≤ length s.label → j ≤ length s.label)
