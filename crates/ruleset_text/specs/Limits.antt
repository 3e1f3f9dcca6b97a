-- What is limited in a pattern, and whether its sets are known.
use Rattle.std.specs.Prelude.{ℕ, ◌+◌, ◌≤◌, max, nat_lt, Bool, true, ◌&&◌}
use Rattle.label_patterns.specs.Patterns.{Pattern, Point, Set, Any, Start, End, Anchor, Group, Optional, Many, Then}
use Rattle.label_patterns.specs.Patterns.{Either}

-- how many groups stand within each other
abbrev pub groups : Pattern → ℕ
groups (Point c) = 0
groups (Set n) = 0
groups Any = 0
groups Start = 0
groups End = 0
groups Anchor = 0
groups (Group p) = groups p + 1
groups (Optional p) = groups p
groups (Many p) = groups p
groups (Then p q) = max (groups p) (groups q)
groups (Either p q) = max (groups p) (groups q)

-- how many '*' stand within each other
abbrev pub stars : Pattern → ℕ
stars (Point c) = 0
stars (Set n) = 0
stars Any = 0
stars Start = 0
stars End = 0
stars Anchor = 0
stars (Group p) = stars p
stars (Optional p) = stars p
stars (Many p) = stars p + 1
stars (Then p q) = max (stars p) (stars q)
stars (Either p q) = max (stars p) (stars q)

-- how many atoms, '^' and '$' there are, groups counted
abbrev pub atoms : Pattern → ℕ
atoms (Point c) = 1
atoms (Set n) = 1
atoms Any = 1
atoms Start = 1
atoms End = 1
atoms Anchor = 0
atoms (Group p) = atoms p + 1
atoms (Optional p) = atoms p
atoms (Many p) = atoms p
atoms (Then p q) = atoms p + atoms q
atoms (Either p q) = atoms p + atoms q

-- at most g groups and s '*' within each other
abbrev pub IsWithin : ℕ → ℕ → Pattern → Type 0
IsWithin g s p = (groups p ≤ g) × (stars p ≤ s)

-- each set of the pattern is one of the first n
abbrev pub has_its_sets : ℕ → Pattern → Bool
has_its_sets n (Point c) = true
has_its_sets n (Set m) = nat_lt m n
has_its_sets n Any = true
has_its_sets n Start = true
has_its_sets n End = true
has_its_sets n Anchor = true
has_its_sets n (Group p) = has_its_sets n p
has_its_sets n (Optional p) = has_its_sets n p
has_its_sets n (Many p) = has_its_sets n p
has_its_sets n (Then p q) = has_its_sets n p && has_its_sets n q
has_its_sets n (Either p q) = has_its_sets n p && has_its_sets n q
