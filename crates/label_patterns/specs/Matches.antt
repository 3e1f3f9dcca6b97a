-- Which parts of a label a pattern matches: the textbook relation of regular expressions, on the places where the part
-- begins and ends.
use Rattle.std.specs.Prelude.{◌≡◌, ◌⊎◌, ℕ, ◌+◌, ◌<◌, ◌==◌, Bool, true, List, [], length, slice_index_or}
use Rattle.label_patterns.specs.declared.span.Span.{Span}
use Rattle.label_patterns.specs.Patterns.{Pattern, Point, Set, Any, Start, End, Anchor, Group, Optional, Many, Then}
use Rattle.label_patterns.specs.Patterns.{Either}
use Rattle.label_patterns.specs.Places.{StandsAt}
use Rattle.label_patterns.specs.Sets.{is_in}

-- a label, and the sets that patterns name by their number
pub record Seen : Type 0 where
  pub sets : List (List Span)
  pub label : List ℕ

-- any number of rounds of R lead from i to the last number
pub data Rounds (R : ℕ → ℕ → Type 0) (i : ℕ) : ℕ → Type 0 where
  no_round : Rounds R i i
  one_more : (k j : ℕ) → Rounds R i k → R k j → Rounds R i j

-- one code point of which the test is true
abbrev pub MatchesOne : (ℕ → Bool) → Seen → ℕ → ℕ → Type 0
MatchesOne test seen i j = StandsAt test seen.label i × (j ≡ i + 1)

-- this place alone
abbrev pub MatchesAt : ℕ → ℕ → ℕ → Type 0
MatchesAt place i j = (i ≡ place) × (j ≡ place)

-- the part of the label between the places i and j matches the pattern
abbrev pub Matches : Seen → Pattern → ℕ → ℕ → Type 0
Matches seen (Point c) i j = MatchesOne (λ d. d == c) seen i j
Matches seen (Set n) i j = MatchesOne (is_in (slice_index_or seen.sets n [])) seen i j
Matches seen Any i j = MatchesOne (λ d. true) seen i j
Matches seen Start i j = MatchesAt 0 i j
Matches seen End i j = MatchesAt (length seen.label) i j
Matches seen Anchor i j = ⊥
Matches seen (Group p) i j = Matches seen p i j
Matches seen (Optional p) i j = (j ≡ i) ⊎ Matches seen p i j
Matches seen (Many p) i j = Rounds (Matches seen p) i j
Matches seen (Then p q) i j = (k : ℕ) × Matches seen p i k × Matches seen q k j
Matches seen (Either p q) i j = Matches seen p i j ⊎ Matches seen q i j

-- each set of the pattern is one of the first n
abbrev pub HasItsSets : ℕ → Pattern → Type 0
HasItsSets n (Set m) = m < n
HasItsSets n (Group p) = HasItsSets n p
HasItsSets n (Optional p) = HasItsSets n p
HasItsSets n (Many p) = HasItsSets n p
HasItsSets n (Then p q) = HasItsSets n p × HasItsSets n q
HasItsSets n (Either p q) = HasItsSets n p × HasItsSets n q
HasItsSets n (Point c) = Unit {0}
HasItsSets n Any = Unit {0}
HasItsSets n Start = Unit {0}
HasItsSets n End = Unit {0}
HasItsSets n Anchor = Unit {0}
