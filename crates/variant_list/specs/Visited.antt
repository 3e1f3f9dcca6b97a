-- The labels that a listing comes to, one for each step of its search, and how many steps are left.
use Rattle.std.specs.Prelude.{◌≡◌, ℕ, ◌-◌, ◌≤◌, ◌||◌, nat_lt, Bool, true, List, [], ◌∷◌, Option, Some, None, IfSome}
use Rattle.std.specs.Prelude.{if◌then◌else◌}
use Rattle.variant_list.specs.Beginnings.{shortest_hopeless, has_no_dead_prefix, is_new}
use Rattle.variant_list.specs.Positions.{Position, candidates_ahead}

-- the labels of a list that a search comes to: in order, those without a dead prefix, and the dead prefixes; the others
-- it passes over
abbrev pub visited : (List ℕ → Bool) → Option (List ℕ) → List (List ℕ) → List (List ℕ)
visited hopeless before [] = []
visited hopeless before (v ∷ vs) =
    if has_no_dead_prefix hopeless v || is_new before v (shortest_hopeless hopeless v)
    then v ∷ visited hopeless (Some v) vs
    else visited hopeless (Some v) vs

-- those among the candidates that are still to come
abbrev pub visited_ahead : (List ℕ → Bool) → Position → List (List ℕ)
visited_ahead hopeless p = visited hopeless None (candidates_ahead p)

-- ---- steps, of which there may be a greatest number

-- another one may be taken
abbrev pub has_step : Option ℕ → Bool
has_step None = true
has_step (Some n) = nat_lt 0 n

-- so many fewer
abbrev pub fewer_steps : Option ℕ → ℕ → Option ℕ
fewer_steps None taken = None
fewer_steps (Some n) taken = Some (n - taken)

-- so many were taken of those that there were, and these are left
pub record TakesSteps (steps : Option ℕ) (taken : ℕ) (left : Option ℕ) : Type 0 where
  pub within : IfSome steps (λ n. taken ≤ n)
  pub fewer : left ≡ fewer_steps steps taken
