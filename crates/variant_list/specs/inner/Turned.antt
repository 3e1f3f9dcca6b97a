-- The turned pairs of a table as a map keeps them, and one more.
use Rattle.std.specs.Prelude.{◌≡◌, ◌≢◌, ◌⊎◌, ◌↔◌, ℕ, ◌<◌, ◌≤◌, List, length, map, slice_get, Some, AllPairs, Contains}
use Rattle.std.specs.Prelude.{Vec}
use Rattle.std.specs.declared.alloc.Global.{Global}
use Rattle.variant_table.specs.Entries.{Entry, sequences_in}
use Rattle.variant_table.specs.Gaps.{IsPair}
use Rattle.variant_list.specs.Reversed.{Group, IsReversed, sources_of}

-- sequences, without their places in memory
abbrev pub sequences_of : List (Vec ℕ Global) → List (List ℕ)
sequences_of vs = map (λ v. v.items) vs

abbrev pub group_of : Vec ℕ Global × Vec (Vec ℕ Global) Global → Group
group_of e = record { sequence = e.0.items; sources = sequences_of e.1.items }

abbrev pub groups_of : List (Vec ℕ Global × Vec (Vec ℕ Global) Global) → List Group
groups_of es = map group_of es

-- a sequence has different sources, at most 64
abbrev pub AreSound : List Group → Type 0
AreSound groups = (a : List ℕ) → (length (sources_of groups a) ≤ 64) × AllPairs (λ b c. b ≢ c) (sources_of groups a)

-- all of them are turned pairs of a table
abbrev pub AreTurned : List Entry → List Group → Type 0
AreTurned entries groups = (a b : List ℕ) → Contains (sources_of groups a) b → IsReversed entries a b

-- new has the sources of old, and those of which P holds
abbrev pub Adds : List Group → List Group → (List ℕ → List ℕ → Type 0) → Type 0
Adds old new P = (a b : List ℕ) → Contains (sources_of new a) b ↔ (Contains (sources_of old a) b ⊎ P a b)

-- new has these sources of a, and of each other sequence those of old
abbrev pub Puts : List Group → List Group → List ℕ → List (List ℕ) → Type 0
Puts old new a sources = (sources_of new a ≡ sources) × ((b : List ℕ) → b ≢ a → sources_of new b ≡ sources_of old b)

-- b is the source of the entry, a one of its first so many variants, and they lack their reverse
abbrev pub TurnsUpTo : List Entry → Entry → ℕ → List ℕ → List ℕ → Type 0
TurnsUpTo entries e n a b =
    (b ≡ e.source) × ((k : ℕ) × (k < n) × (slice_get (sequences_in e.variants) k ≡ Some a)) × ¬ IsPair entries a b

-- the same for any of its variants
abbrev pub Turns : List Entry → Entry → List ℕ → List ℕ → Type 0
Turns entries e = TurnsUpTo entries e (length e.variants)

-- the same for one of the first so many entries
abbrev pub SomeTurns : List Entry → ℕ → List ℕ → List ℕ → Type 0
SomeTurns entries n a b = (k : ℕ) × (e : Entry) × (k < n) × (slice_get entries k ≡ Some e) × Turns entries e a b

-- the sources are those of the first so many entries
abbrev pub AreOfFirst : List Entry → ℕ → List Group → Type 0
AreOfFirst entries n groups = (a b : List ℕ) → Contains (sources_of groups a) b ↔ SomeTurns entries n a b

-- a sequence has 64 sources, and is a variant of another one
pub record HasNoRoom (groups : List Group) (a b : List ℕ) : Type 0 where
  pub full : length (sources_of groups a) ≡ 64
  pub other : ¬ Contains (sources_of groups a) b
