-- The pairs of a table that lack their reverse, turned round.
use Rattle.std.specs.Prelude.{◌≡◌, ◌≢◌, ◌↔◌, ℕ, ◌+◌, ◌<◌, ◌≤◌, List, [], ◌∷◌, length, take, All, AllPairs, Contains}
use Rattle.std.specs.Prelude.{bytes_eq, if◌then◌else◌}
use Rattle.variant_table.specs.Entries.{Entry}
use Rattle.variant_table.specs.Gaps.{IsPair}

-- a is a variant of b, and b none of a
pub record IsReversed (entries : List Entry) (a b : List ℕ) : Type 0 where
  pub pair : IsPair entries b a
  pub lacking : ¬ IsPair entries a b

-- a sequence with some sources of which it is a variant
pub record Group : Type 0 where
  pub sequence : List ℕ
  pub sources : List (List ℕ)

-- those of a sequence, none if no group is of it
abbrev pub sources_of : List Group → List ℕ → List (List ℕ)
sources_of [] a = []
sources_of (g ∷ groups) a = if bytes_eq a g.sequence then g.sources else sources_of groups a

-- exactly the turned pairs of a table
abbrev pub AreReversedOf : List Entry → List Group → Type 0
AreReversedOf entries groups = (a b : List ℕ) → Contains (sources_of groups a) b ↔ IsReversed entries a b

-- a sequence is a variant of so many sources at most
abbrev pub AreFew : List Group → Type 0
AreFew groups = (a : List ℕ) → length (sources_of groups a) ≤ 64

-- the sequence is a variant of more than 64 sources that aren't variants of it
pub record IsCrowded (entries : List Entry) (a : List ℕ) : Type 0 where
  pub sources : List (List ℕ)
  pub reversed : All (IsReversed entries a) sources
  pub distinct : AllPairs (λ b c. b ≢ c) sources
  pub many : length sources ≡ 65

-- it is one of more than 64 such sources of these entries alone
pub record IsCrowdedBy (entries some : List Entry) (a : List ℕ) : Type 0 where
  pub crowded : IsCrowded entries a
  pub by_these : All (λ b. IsPair some b a) crowded.sources

-- the source of the entry of this number, from 0, is the first that is one too many
pub record IsCrowdedAt (entries : List Entry) (number : ℕ) : Type 0 where
  pub within : number < length entries
  pub crowded : (a : List ℕ) × IsCrowdedBy entries (take (number + 1) entries) a
  pub first : (a : List ℕ) → ¬ IsCrowdedBy entries (take number entries) a
