-- How a listing passes over dead prefixes: words of the cursor's inner steps.
use Rattle.std.specs.Prelude.{◌≡◌, ◌≤◌, ◌+◌, ◌*◌, ℕ, Bool, true, false, not, List, ◌∷◌, ◌++◌, length, filter, Some}
use Rattle.std.specs.Prelude.{None, slice_get, if◌then◌else◌}
use Rattle.std.specs.List.{AllByRecursion}
use Rattle.variant_list.specs.Beginnings.{has_no_dead_prefix, shares, dead_prefixes}
use Rattle.variant_list.specs.Positions.{Position, candidates_ahead}

-- how many edges the variant graph of a cursor has
abbrev pub edges_of_net : Position → ℕ
edges_of_net p = p.net.edges

-- those labels that do not begin with the first n code points of v
abbrev pub outside : ℕ → List ℕ → List (List ℕ) → List (List ℕ)
outside n v = filter (λ w. not (shares n v w))

-- the cursor went to the first candidate that does not begin with the first `top` code points of the last label, or
-- stays where there is none
pub record Searches (old : Position) (top : ℕ) (found : Bool) (new : Position) : Type 0 where
  pub net : new.net ≡ old.net
  pub first : slice_get (outside top old.last (candidates_ahead old)) 0 ≡ (if found then Some new.last else None)
  pub stays : found ≡ false → new.last ≡ old.last
  pub looks : new.edge_tests ≤ old.edge_tests + 126 * edges_of_net old

-- the cursor now goes on after this label
pub record GoesBack (old : Position) (label : List ℕ) (new : Position) : Type 0 where
  pub net : new.net ≡ old.net
  pub last : new.last ≡ label
  pub looks : new.edge_tests ≤ old.edge_tests + 63 * edges_of_net old

-- the cursor went to the first candidate without a dead prefix, by one search for each dead prefix before it, and one
-- more
pub record FindsTested (hopeless : List ℕ → Bool) (old new : Position) : Type 0 where
  pub net : new.net ≡ old.net
  pub passed : List (List ℕ)
  pub whole : candidates_ahead old ≡ passed ++ new.last ∷ candidates_ahead new
  pub dead : AllByRecursion (λ v. has_no_dead_prefix hopeless v ≡ false) passed
  pub alive : has_no_dead_prefix hopeless new.last ≡ true
  pub looks :
      new.edge_tests ≤ old.edge_tests + 126 * (edges_of_net old * (length (dead_prefixes hopeless None passed) + 1))

-- each candidate has a dead prefix
pub record FindsNone (hopeless : List ℕ → Bool) (old new : Position) : Type 0 where
  pub net : new.net ≡ old.net
  pub dead : AllByRecursion (λ v. has_no_dead_prefix hopeless v ≡ false) (candidates_ahead old)
  pub looks :
      new.edge_tests
      ≤ old.edge_tests + 126 * (edges_of_net old * (length (dead_prefixes hopeless None (candidates_ahead old)) + 1))
