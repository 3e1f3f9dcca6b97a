-- Code points that are sources with which no other segment begins, and where they stand in a label.
use Rattle.std.specs.Prelude.{◌≡◌, ◌⊎◌, ℕ, ◌+◌, ◌<◌, List, [], ◌∷◌, length, Option, Some, None, slice_index}
use Rattle.label_patterns.specs.declared.condition.Condition.{Condition}
use Rattle.label_patterns.specs.declared.condition.ConditionKind.{ConditionKind}
use Rattle.label_patterns.specs.declared.condition.ConditionKind.TheVariants.{When, Unless}
use Rattle.label_patterns.specs.Conditions.{ConditionHolds}
use Rattle.label_patterns.specs.Matches.{Seen}
use Rattle.label_patterns.specs.Patterns.{Pattern}
use Rattle.label_patterns.specs.Places.{Has}
use Rattle.variant_table.specs.Entries.{TableValue}
use Rattle.variant_table.specs.WellFormed.{IsWellFormed}
use Rattle.valid_labels.specs.declared.single_places.SinglePlaces.{SinglePlaces}
use Rattle.valid_labels.specs.declared.cutting.SingleSteps.{SingleSteps}
use Rattle.valid_labels.specs.declared.segments.SinglePoint.{SinglePoint}
use Rattle.valid_labels.specs.Segments.{IsSegment}

-- a code point is a segment with this condition, and no other segment begins with it
pub record IsSingle (table : TableValue) (point : ℕ) (condition : Option Condition) : Type 0 where
  pub formed : IsWellFormed table.entries
  pub segment : IsSegment table (point ∷ []) condition
  pub alone : (rest : List ℕ) (c : Option Condition) → IsSegment table (point ∷ rest) c → (rest ≡ []) × (c ≡ condition)

-- what is cached of a code point stands for none, or is so
abbrev pub IsKnown : TableValue → SinglePoint → Type 0
IsKnown table s = (s.point ≡ 4294967295) ⊎ IsSingle table s.point s.condition

-- for each rule the places at which it is to hold, or not to hold
abbrev pub places_of_kind : ConditionKind → SinglePlaces → List ℕ
places_of_kind When places = places.when.items
places_of_kind Unless places = places.unless.items

-- the places at which this is asked
abbrev pub asked_at : SinglePlaces → Option Condition → ℕ
asked_at places None = places.free
asked_at places (Some c) = slice_index (places_of_kind c.kind places) c.rule

-- there are places for so many rules
abbrev pub HasRoom : ℕ → SinglePlaces → Type 0
HasRoom rules places = (length places.when.items ≡ rules) × (length places.unless.items ≡ rules)

-- these places are among the first n of a label; at each a single code point stands,
-- with the condition that is asked there
abbrev pub AreSingles : ℕ → TableValue → List ℕ → SinglePlaces → Type 0
AreSingles n table label places =
    (i : ℕ) (c : Option Condition) → Has (asked_at places c) i → (i < n) × IsSingle table (slice_index label i) c

-- at each known place something is asked, and where it is so, the place leads on;
-- at each place that leads on something is asked that is so
pub record AreHoldingSteps (rules : List Pattern) (seen : Seen) (places : SinglePlaces)
    (steps : SingleSteps) : Type 0 where
  pub known : (i : ℕ) → Has steps.known i → (c : Option Condition) × Has (asked_at places c) i
      × (ConditionHolds rules seen c i (i + 1) → Has steps.leading i)
  pub leading : (i : ℕ) → Has steps.leading i → (c : Option Condition) × Has (asked_at places c) i
      × ConditionHolds rules seen c i (i + 1)
