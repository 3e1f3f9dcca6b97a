-- The substitutions of a label as they are stored: of each place a part of one list, with their code points in another
-- one.
use Rattle.std.specs.Prelude.{ℕ, ◌-◌, ◌≤◌, List, length, map, take, drop, Contains}
use Rattle.reading_kinds.specs.Readings.{Substitution}
use Rattle.reading_kinds.specs.declared.label_substitutions.Part.{Part}
use Rattle.reading_kinds.specs.declared.label_substitutions.StoredSubstitution.{StoredSubstitution}

-- a substitution with its code points
abbrev pub substitution_of : List ℕ → StoredSubstitution → Substitution
substitution_of points u =
    record { covers = u.covers; kinds = u.kinds; points = take (u.end - u.start) (drop u.start points) }

-- the substitutions of a place
abbrev pub place_of : List Substitution → Part → List Substitution
place_of all part = take (part.end - part.start) (drop part.start all)

abbrev pub lists_of : List Substitution → List Part → List (List Substitution)
lists_of all places = map (place_of all) places

-- from one place of a list up to another one
pub record IsPart (start end limit : ℕ) : Type 0 where
  pub in_order : start ≤ end
  pub within : end ≤ limit

pub record IsKept (points : List ℕ) (substitutions : List StoredSubstitution) (places : List Part)
    (longest : ℕ) : Type 0 where
  pub of_substitutions : (part : Part) → Contains places part → IsPart part.start part.end (length substitutions)
  pub of_points : (u : StoredSubstitution) → Contains substitutions u → IsPart u.start u.end (length points)
  pub short : (u : StoredSubstitution) → Contains substitutions u → u.end - u.start ≤ longest
