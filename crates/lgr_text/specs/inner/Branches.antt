-- The branches of a pattern.
use Rattle.std.specs.Prelude.{◌≡◌, ◌↔◌, ◌⊎◌, ℕ, Bool, List, [], ◌∷◌, ◌++◌, map, length, Option}
use Rattle.std.specs.List.{AllByRecursion}
use Rattle.label_patterns.specs.declared.span.Span.{Span}
use Rattle.label_patterns.specs.Laws.{seen}
use Rattle.label_patterns.specs.Matches.{Seen}
use Rattle.label_patterns.specs.Patterns.{Pattern, Then, Either}
use Rattle.lgr_text.specs.PartMatches.{BeginsWith, IsOf, Place}
use Rattle.lgr_text.specs.inner.Items.{in_sequence, never, HasShape, HaveSets, ItemsMatch}

-- one or another of the patterns
abbrev pub in_choice : List Pattern → Pattern
in_choice [] = never
in_choice (p ∷ []) = p
in_choice (p ∷ q ∷ ps) = Either p (in_choice (q ∷ ps))

-- the pattern has such branches: sequences of items, in each of which the anchor stands once, or in none
pub record HasBranches (p : Pattern) : Type 0 where
  pub anchored : Bool
  pub rows : List (List Pattern)
  pub is : p ≡ in_choice (map in_sequence rows)
  pub shapes : AllByRecursion (HasShape anchored) rows

abbrev pub HaveBranches : List Pattern → Type 0
HaveBranches rules = AllByRecursion HasBranches rules

-- the part of a label from i to j matches the items of a branch
abbrev pub BranchesMatch : Seen → Option Place → List (List Pattern) → ℕ → ℕ → Type 0
BranchesMatch seen at [] i j = ⊥
BranchesMatch seen at (items ∷ others) i j = ItemsMatch seen at items i j ⊎ BranchesMatch seen at others i j

-- the pattern has such branches, which match what R says of a label made of these code points, and maybe sets were
-- appended
pub record MakesBranches (points : List Span) (anchored : Bool) (old_sets sets : List (List Span)) (p : Pattern)
    (R : Seen → Option Place → ℕ → ℕ → Type 0) : Type 0 where
  pub kept : BeginsWith sets old_sets
  pub row : List Pattern
  pub others : List (List Pattern)
  pub is : p ≡ in_choice (map in_sequence (row ∷ others))
  pub shapes : AllByRecursion (HasShape anchored) (row ∷ others)
  pub known : AllByRecursion (HaveSets (length sets)) (row ∷ others)
  pub match_them : (all : List (List Span)) (label : List ℕ) (at : Option Place) (i j : ℕ) → BeginsWith all sets
      → IsOf points label → BranchesMatch (seen all label) at (row ∷ others) i j ↔ R (seen all label) at i j

-- the branches of both patterns
abbrev pub joined : Pattern → Pattern → Pattern
joined (Either branch p) q = Either branch (joined p q)
joined branch q = Either branch q

-- the items before each branch, or after each
abbrev pub preceded : List Pattern → Pattern → Pattern
preceded items (Either branch p) = Either (preceded items branch) (preceded items p)
preceded items branch = in_sequence (items ++ branch ∷ [])

abbrev pub followed : List Pattern → Pattern → Pattern
followed items (Either branch p) = Either (followed items branch) (followed items p)
followed items (Then item p) = Then item (followed items p)
followed items item = in_sequence (item ∷ items)
