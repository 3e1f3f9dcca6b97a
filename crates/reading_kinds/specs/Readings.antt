-- The readings of a label: the ways to cut it into substitutions (RFC 7940, section 8.2). The substitutions of a label
-- are a list for each of its places, in order, with those that begin there.
use Rattle.std.specs.Int.{bit_at}
use Rattle.std.specs.Prelude.{◌≡◌, ℕ, ◌+◌, ◌≤◌, ◌⊎◌, List, [], ◌∷◌, length, drop, slice_index_or, Contains, All}
use Rattle.std.specs.List.{flat_map}

-- these code points may stand in the place of so many code points of a label;
-- what a reading records then are these kinds, each a bit
pub record Substitution : Type 0 where
  pub covers : ℕ
  pub kinds : ℕ
  pub points : List ℕ

-- those that begin at a place
abbrev pub substitutions_at : List (List Substitution) → ℕ → List Substitution
substitutions_at substitutions place = slice_index_or substitutions place []

-- the label is cut into what these substitutions cover, each at the place at which the one before ends
abbrev pub IsCut : List (List Substitution) → List Substitution → Type 0
IsCut [] [] = Unit {0}
IsCut [] (u ∷ cut) = ⊥
IsCut (here ∷ later) [] = ⊥
IsCut (here ∷ later) (u ∷ cut) =
    Contains here u × (u.covers ≤ length later + 1) × IsCut (drop u.covers (here ∷ later)) cut

-- what they put in the place of the label
abbrev pub points_of : List Substitution → List ℕ
points_of cut = flat_map (λ u. u.points) cut

-- the substitutions spell v: by some of them the label is cut, and they put v in its place
abbrev pub SubstitutionsSpell : List (List Substitution) → List ℕ → Type 0
SubstitutionsSpell substitutions v = (cut : List Substitution) × IsCut substitutions cut × (points_of cut ≡ v)

-- so they are a reading of v
pub record IsReading (substitutions : List (List Substitution)) (v : List ℕ) (cut : List Substitution) : Type 0 where
  pub is_cut : IsCut substitutions cut
  pub joined : points_of cut ≡ v

-- the reading has the kind: one of its substitutions has it
abbrev pub HasKind : List Substitution → ℕ → Type 0
HasKind [] k = ⊥
HasKind (u ∷ cut) k = (bit_at u.kinds k ≡ 1) ⊎ HasKind cut k

-- some reading of v has the kind; some reading of v lacks it
abbrev pub SomeHas : List (List Substitution) → List ℕ → ℕ → Type 0
SomeHas substitutions v k = (cut : List Substitution) × IsReading substitutions v cut × HasKind cut k

abbrev pub SomeLacks : List (List Substitution) → List ℕ → ℕ → Type 0
SomeLacks substitutions v k = (cut : List Substitution) × IsReading substitutions v cut × ¬ HasKind cut k

-- a substitution that covers 1 to so many code points by 1 to 8
pub record IsSubstitution (room : ℕ) (u : Substitution) : Type 0 where
  pub some : 1 ≤ u.covers
  pub within : u.covers ≤ room
  pub filled : 1 ≤ length u.points
  pub short : length u.points ≤ 8

-- substitutions that end within the label, at most 648 at each place
abbrev pub AreSubstitutions : List (List Substitution) → Type 0
AreSubstitutions [] = Unit {0}
AreSubstitutions (here ∷ later) =
    All (IsSubstitution (length later + 1)) here × (length here ≤ 648) × AreSubstitutions later
