-- The variant graph of a label as places and edges, and the labels that it spells as a list.
use Rattle.std.specs.Prelude.{◌≡◌, ℕ, zero, suc, ◌+◌, ◌-◌, ◌≤◌, ◌↔◌, List, [], ◌∷◌, ◌++◌, length, take, drop, map}
use Rattle.std.specs.Prelude.{slice_index}
use Rattle.std.specs.List.{flat_map}
use Rattle.reading_kinds.specs.Readings.{Substitution, SubstitutionsSpell}
use Rattle.variant_list.specs.Substitutions.{substitution_edges, substitution_count}
use Rattle.variant_list.specs.Positions.{Built}
use Rattle.variant_list.specs.declared.edges.Edge.{Edge}
use Rattle.variant_list.specs.inner.Plans.{Plan, Reads, first_place}

-- the paths from the beginning of the label to its end spell what the substitutions spell
pub record IsNetOf (substitutions : List (List Substitution)) (plan : Plan) : Type 0 where
  pub reads : (v : List ℕ) → Reads plan (first_place plan) v ↔ SubstitutionsSpell substitutions v
  pub edges : length plan.edges ≡ substitution_edges substitutions
  pub places : length plan.rests + substitution_count substitutions ≡ length plan.edges + length substitutions + 1

-- a variant graph that spells something; no label of it is longer than what 63 substitutions put in the place of a
-- label
pub record IsNet (plan : Plan) : Type 0 where
  pub some : (v : List ℕ) × Reads plan (first_place plan) v
  pub short : (v : List ℕ) → Reads plan (first_place plan) v → length v ≤ 504
  pub few : length plan.edges ≤ 326592
  pub room : length plan.rests ≤ length plan.edges + 64

-- ---- what contracts see of a variant graph

-- the edges that begin at a place
abbrev pub edges_at : Plan → ℕ → List Edge
edges_at plan place =
    take (slice_index plan.starts (place + 1) - slice_index plan.starts place)
    (drop (slice_index plan.starts place) plan.edges)

-- the empty label, at the end
abbrev pub spelled_at_end : ℕ → List (List ℕ)
spelled_at_end zero = [] ∷ []
spelled_at_end (suc place) = []

-- what paths of at most n edges from a place to the end spell
abbrev pub spelled_in : ℕ → Plan → ℕ → List (List ℕ)
spelled_in zero plan place = spelled_at_end place
spelled_in (suc n) plan place =
    spelled_at_end place ++ flat_map (λ e. map (λ w. e.point ∷ w) (spelled_in n plan e.place)) (edges_at plan place)

abbrev pub spelled_of : Plan → List (List ℕ)
spelled_of plan = spelled_in 504 plan (first_place plan)

abbrev pub built_of : Plan → Built
built_of plan = record { spelled = spelled_of plan; edges = length plan.edges; places = length plan.rests }
