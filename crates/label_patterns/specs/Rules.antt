-- What rules and demands ask of a label.
use Rattle.std.specs.Prelude.{◌≡◌, ◌⊎◌, ℕ, ◌≤◌, Bool, true, false, ◌||◌, not, IsTrue, List, [], ◌∷◌, length}
use Rattle.label_patterns.specs.Patterns.{Pattern, Anchor, Then, Either}
use Rattle.label_patterns.specs.Matches.{Seen, Matches}

-- the branches of a pattern; those of a context rule are its contexts: items, one of which is '_'
abbrev pub branches : Pattern → List Pattern
branches (Either p q) = p ∷ branches q
branches p = p ∷ []

-- the pattern is '_'
abbrev pub is_anchor : Pattern → Bool
is_anchor Anchor = true
is_anchor p = false

-- '_' is one of the items
abbrev pub is_context : Pattern → Bool
is_context Anchor = true
is_context (Then p q) = is_anchor p || is_context q
is_context p = false

-- the pattern is that of a context rule, since '_' stands in its first branch (RFC 7940, section 6.4); any other is
-- that of a whole-label rule
abbrev pub is_context_rule : Pattern → Bool
is_context_rule (Either p q) = is_context p
is_context_rule p = is_context p

-- the part of the label from k to i matches what stands before '_' in the context
abbrev pub Before : Seen → Pattern → ℕ → ℕ → Type 0
Before seen Anchor k i = i ≡ k
Before seen (Then p q) k i = (IsTrue (is_anchor p) × (i ≡ k)) ⊎ ((m : ℕ) × Matches seen p k m × Before seen q m i)
Before seen p k i = ⊥

-- the part from j to k matches what stands after '_'
abbrev pub After : Seen → Pattern → ℕ → ℕ → Type 0
After seen Anchor j k = k ≡ j
After seen (Then p q) j k =
    (IsTrue (is_anchor p) × Matches seen q j k) ⊎ (IsTrue (not (is_anchor p)) × After seen q j k)
After seen p j k = ⊥

-- what is before the place i ends in what stands before '_'
abbrev pub EndsBefore : Seen → Pattern → ℕ → Type 0
EndsBefore seen context i = (k : ℕ) × Before seen context k i

-- what is after the place j begins with what stands after '_'
abbrev pub BeginsAfter : Seen → Pattern → ℕ → Type 0
BeginsAfter seen context j = (k : ℕ) × After seen context j k

-- one of the contexts holds for the part from i to j
abbrev pub HoldsInOne : Seen → List Pattern → ℕ → ℕ → Type 0
HoldsInOne seen [] i j = ⊥
HoldsInOne seen (context ∷ others) i j =
    (EndsBefore seen context i × BeginsAfter seen context j) ⊎ HoldsInOne seen others i j

-- some part of the label matches the pattern
abbrev pub Occurs : Seen → Pattern → Type 0
Occurs seen p = (i : ℕ) × (j : ℕ) × (i ≤ length seen.label) × Matches seen p i j

-- a context rule holds in one of its contexts; a whole-label rule for each part of a label of which it matches some
-- part
abbrev pub HoldsAs : Bool → Seen → Pattern → ℕ → ℕ → Type 0
HoldsAs true seen rule i j = HoldsInOne seen (branches rule) i j
HoldsAs false seen rule i j = Occurs seen rule

-- the rule holds for the part of the label from i to j
abbrev pub Holds : Seen → Pattern → ℕ → ℕ → Type 0
Holds seen rule i j = HoldsAs (is_context_rule rule) seen rule i j
