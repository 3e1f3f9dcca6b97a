-- With which token a pattern goes past a limit.
use Rattle.std.specs.Prelude.{ℕ, ◌+◌, ◌-◌, ◌==◌, nat_le, nat_lt, Bool, false, ◌||◌, Option, Some, None, List, [], ◌∷◌}
use Rattle.std.specs.Prelude.{◌++◌, if◌then◌else◌}
use Rattle.label_patterns.specs.Patterns.{Pattern, Point, Set, Any, Start, End, Anchor, Group, Optional, Many, Then}
use Rattle.label_patterns.specs.Patterns.{Either}
use Rattle.ruleset_text.specs.declared.fault.FaultPlace.{FaultPlace}
use Rattle.ruleset_text.specs.Limits.{groups, stars, atoms}
use Rattle.ruleset_text.specs.LineFaults.{lexeme_place}
use Rattle.ruleset_text.specs.PlacedLexemes.{Placed}

-- for each token of a pattern that stands within so many groups, and may have so many atoms: whether it is a '(' within
-- eight groups, a '*' after an atom in which two stand within each other, or an atom too many
abbrev pub marks : ℕ → ℕ → Pattern → List Bool
marks depth left (Point c) = (left == 0) ∷ []
marks depth left (Set n) = (left == 0) ∷ []
marks depth left Any = (left == 0) ∷ []
marks depth left Start = (left == 0) ∷ []
marks depth left End = (left == 0) ∷ []
marks depth left Anchor = false ∷ []
marks depth left (Group p) = (nat_le 8 depth || left == 0) ∷ (marks (depth + 1) (left - 1) p ++ false ∷ [])
marks depth left (Optional p) = marks depth left p ++ false ∷ []
marks depth left (Many p) = marks depth left p ++ nat_le 2 (stars p) ∷ []
marks depth left (Then p q) = marks depth left p ++ marks depth (left - atoms p) q
marks depth left (Either p q) = marks depth left p ++ false ∷ marks depth (left - atoms p) q

-- the first lexeme that is marked
abbrev pub first_marked : List Bool → List Placed → Option FaultPlace
first_marked [] ws = None
first_marked ms [] = None
first_marked (m ∷ ms) (w ∷ ws) = if m then Some (lexeme_place w) else first_marked ms ws

-- that of a pattern that may have so many atoms
abbrev pub limit_place : ℕ → Pattern → List Placed → Option FaultPlace
limit_place left p ws = first_marked (marks 0 left p) ws

-- such a pattern goes past a limit
abbrev pub is_past_limits : ℕ → Pattern → Bool
is_past_limits left p = nat_lt 8 (groups p) || nat_lt 2 (stars p) || nat_lt left (atoms p)
