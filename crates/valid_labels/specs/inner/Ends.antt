-- Where a beginning of a label is dead by a demand.
use Rattle.std.specs.Prelude.{◌≡◌, ◌⊎◌, ℕ, ◌<◌, ◌≤◌, min, Option, Some, None, List, length, Contains}
use Rattle.label_patterns.specs.FirstEnds.{IsFirstEnd}
use Rattle.label_patterns.specs.Laws.{IgnoresEnd}
use Rattle.label_patterns.specs.Matches.{Seen, Matches}
use Rattle.label_patterns.specs.Rules.{Occurs}
use Rattle.ruleset_text.specs.declared.definition.DemandKind.TheVariants.{Never}
use Rattle.ruleset_text.specs.Definitions.{Demand}

-- no label may match the pattern, which doesn't ask for the end
abbrev pub IsRefusing : Demand → Type 0
IsRefusing d = (d.kind ≡ Never) × IgnoresEnd d.pattern

-- no such pattern occurs
abbrev pub NoneRefuses : Seen → List Demand → Type 0
NoneRefuses seen demands = (d : Demand) → Contains demands d → IsRefusing d → ¬ Occurs seen d.pattern

-- a part that such a pattern matches ends at this place, and none ends before it
pub record IsRefusedAt (seen : Seen) (demands : List Demand) (end : ℕ) : Type 0 where
  pub some : (d : Demand) × Contains demands d × IsRefusing d × IsFirstEnd seen d.pattern end
  pub least : (d : Demand) (i j : ℕ) → Contains demands d → IsRefusing d → i ≤ length seen.label
      → Matches seen d.pattern i j → end ≤ j

-- the lesser one of two numbers, each of which may be missing
abbrev pub lesser_of : Option ℕ → Option ℕ → Option ℕ
lesser_of None b = b
lesser_of (Some a) None = Some a
lesser_of (Some a) (Some b) = Some (min a b)

-- a beginning of k code points is dead by a demand whose part ends at a place that may be missing, or since no segment
-- leads past another
abbrev pub IsPast : Option ℕ → ℕ → Type 0
IsPast None k = ⊥
IsPast (Some end) k = end ≤ k

abbrev pub IsDeadFrom : Option ℕ → ℕ → ℕ → Type 0
IsDeadFrom refused nowhere k = (1 ≤ k) × (IsPast refused k ⊎ (nowhere ≤ k))

-- the least such k, which is within n
pub record IsLeastDead (refused : Option ℕ) (nowhere n k : ℕ) : Type 0 where
  pub within : k ≤ n
  pub dead : IsDeadFrom refused nowhere k
  pub least : (m : ℕ) → m < k → ¬ IsDeadFrom refused nowhere m

abbrev pub NoneIsDead : Option ℕ → ℕ → ℕ → Type 0
NoneIsDead refused nowhere n = (k : ℕ) → k ≤ n → ¬ IsDeadFrom refused nowhere k
