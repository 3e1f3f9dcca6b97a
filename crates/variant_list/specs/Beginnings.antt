-- Beginnings of labels: the shortest dead prefix, and the labels at which a listing meets a new one.
use Rattle.std.specs.Prelude.{◌≡◌, ◌==◌, ◌<◌, ◌≤◌, ◌&&◌, ℕ, zero, suc, Bool, true, false, not, List, [], ◌∷◌, length}
use Rattle.std.specs.Prelude.{take, Option, Some, None, if◌then◌else◌}
use Rattle.std.specs.Option.{option_map, is_none}

-- how many code points the shortest dead prefix of a label has, of one code point or more, as it computes
abbrev pub shortest_hopeless : (List ℕ → Bool) → List ℕ → Option ℕ
shortest_hopeless hopeless [] = None
shortest_hopeless hopeless (c ∷ v) =
    if hopeless (c ∷ []) then Some 1 else option_map suc (shortest_hopeless (λ w. hopeless (c ∷ w)) v)

-- the label has no dead prefix, as it computes
abbrev pub has_no_dead_prefix : (List ℕ → Bool) → List ℕ → Bool
has_no_dead_prefix hopeless v = is_none (shortest_hopeless hopeless v)

-- the first n code points are dead, and no fewer, of one or more, are
pub record IsShortest (hopeless : List ℕ → Bool) (v : List ℕ) (n : ℕ) : Type 0 where
  pub some : 1 ≤ n
  pub within : n ≤ length v
  pub holds : hopeless (take n v) ≡ true
  pub first : (k : ℕ) → 1 ≤ k → k < n → hopeless (take k v) ≡ false

-- no dead prefix of one code point or more
abbrev pub HasNoDeadPrefix : (List ℕ → Bool) → List ℕ → Type 0
HasNoDeadPrefix hopeless v = (k : ℕ) → 1 ≤ k → k ≤ length v → hopeless (take k v) ≡ false

-- both labels begin with the same n code points
abbrev pub shares : ℕ → List ℕ → List ℕ → Bool
shares zero v w = true
shares (suc n) [] w = false
shares (suc n) (c ∷ v) [] = false
shares (suc n) (c ∷ v) (d ∷ w) = (c == d) && shares n v w

-- v has a shortest dead prefix, with which the label before it does not begin
abbrev pub is_new : Option (List ℕ) → List ℕ → Option ℕ → Bool
is_new before v None = false
is_new None v (Some n) = true
is_new (Some u) v (Some n) = not (shares n u v)

-- the dead prefixes of a list: in order, the labels whose shortest dead prefix the label before them doesn't have
abbrev pub dead_prefixes : (List ℕ → Bool) → Option (List ℕ) → List (List ℕ) → List (List ℕ)
dead_prefixes hopeless before [] = []
dead_prefixes hopeless before (v ∷ vs) =
    if is_new before v (shortest_hopeless hopeless v) then v ∷ dead_prefixes hopeless (Some v) vs
    else dead_prefixes hopeless (Some v) vs
