-- The cuts of a label by the numbers of its places.
use Rattle.std.specs.Prelude.{◌≡◌, ℕ, ◌+◌, ◌≤◌, List, [], ◌∷◌, length, Contains}
use Rattle.reading_kinds.specs.Readings.{Substitution, substitutions_at}

-- from this place on the label is cut into what these substitutions cover
abbrev pub IsCutFrom : List (List Substitution) → ℕ → List Substitution → Type 0
IsCutFrom substitutions place [] = place ≡ length substitutions
IsCutFrom substitutions place (u ∷ cut) =
    Contains (substitutions_at substitutions place) u × IsCutFrom substitutions (place + u.covers) cut

-- a substitution that ends within the label, from and to at least one code point
pub record Fits (substitutions : List (List Substitution)) (place : ℕ) (u : Substitution) : Type 0 where
  pub within : place + u.covers ≤ length substitutions
  pub covers : 1 ≤ u.covers
  pub some : 1 ≤ length u.points

abbrev pub AllFit : List (List Substitution) → Type 0
AllFit substitutions =
    (place : ℕ) (u : Substitution) → Contains (substitutions_at substitutions place) u → Fits substitutions place u
