-- The grammar of patterns: the tokens that spell them.
use Rattle.std.specs.Prelude.{◌≡◌, List, [], ◌∷◌, ◌++◌}
use Rattle.label_patterns.specs.Patterns.{Pattern, Point, Set, Any, Start, End, Anchor, Group, Optional, Many, Then}
use Rattle.label_patterns.specs.Patterns.{Either}
use Rattle.ruleset_text.specs.declared.token.Token.{Token}
use Rattle.ruleset_text.specs.declared.token.Token.TheVariants as token

-- what may be told of a pattern: each is also the next
pub data Sort : Type 0 where
  Atom : Sort
  Item : Sort
  Branch : Sort
  Whole : Sort

-- the grammar: an item is an atom, an atom with '?' or '*', '^', '$' or '_'; a branch is items; a whole pattern is
-- branches
abbrev pub Is : Sort → Pattern → Type 0
Is s (Point c) = Unit {0}
Is s (Set n) = Unit {0}
Is s Any = Unit {0}
Is s (Group p) = Is Whole p
Is Atom Start = ⊥
Is s Start = Unit {0}
Is Atom End = ⊥
Is s End = Unit {0}
Is Atom Anchor = ⊥
Is s Anchor = Unit {0}
Is Atom (Optional p) = ⊥
Is s (Optional p) = Is Atom p
Is Atom (Many p) = ⊥
Is s (Many p) = Is Atom p
Is Branch (Then p q) = Is Item p × Is Branch q
Is Whole (Then p q) = Is Item p × Is Branch q
Is s (Then p q) = ⊥
Is Whole (Either p q) = Is Branch p × Is Whole q
Is s (Either p q) = ⊥

-- the tokens of a pattern, from left to right
abbrev pub tokens : Pattern → List Token
tokens (Point c) = token.Point c ∷ []
tokens (Set n) = token.Set n ∷ []
tokens Any = token.Any ∷ []
tokens Start = token.Start ∷ []
tokens End = token.End ∷ []
tokens Anchor = token.Anchor ∷ []
tokens (Group p) = token.Open ∷ (tokens p ++ token.Close ∷ [])
tokens (Optional p) = tokens p ++ token.Optional ∷ []
tokens (Many p) = tokens p ++ token.Many ∷ []
tokens (Then p q) = tokens p ++ tokens q
tokens (Either p q) = tokens p ++ token.Or ∷ tokens q

-- the tokens spell the pattern
abbrev pub SpellsPattern : List Token → Pattern → Type 0
SpellsPattern ts p = Is Whole p × (ts ≡ tokens p)
