-- Sets of places of a label, as the bits of a number. A label of n code points has the places 0 to n: each code point
-- stands between its place and the next.
use Rattle.std.specs.Prelude.{◌≡◌, ◌↔◌, ℕ, ◌<◌, List, length, slice_index, Bool, IsTrue}
use Rattle.std.specs.Int.{bit_at}

-- the place is in the set
abbrev pub Has : ℕ → ℕ → Type 0
Has places p = bit_at places p ≡ 1

-- the set has exactly the places to which R leads from one of the starts
abbrev pub AreEnds : (ℕ → ℕ → Type 0) → ℕ → ℕ → Type 0
AreEnds R starts ends = (j : ℕ) → Has ends j ↔ ((i : ℕ) × Has starts i × R i j)

-- the set has exactly the places from which R leads to one of the ends
abbrev pub AreStarts : (ℕ → ℕ → Type 0) → ℕ → ℕ → Type 0
AreStarts R ends starts = (i : ℕ) → Has starts i ↔ ((j : ℕ) × Has ends j × R i j)

-- at this place of the label stands a code point of which the test is true
abbrev pub StandsAt : (ℕ → Bool) → List ℕ → ℕ → Type 0
StandsAt test label i = (i < length label) × IsTrue (test (slice_index label i))

-- the set has exactly the places at which such a code point stands
abbrev pub AreThePlaces : (ℕ → Bool) → List ℕ → ℕ → Type 0
AreThePlaces test label places = (i : ℕ) → Has places i ↔ StandsAt test label i
