-- The pairs of variants whose conditions one way aren't those of the other way (RFC 7940, section 5.3.5).
use Rattle.std.specs.Prelude.{◌≡◌, ◌↔◌, ℕ, Bool, true, false, not, ◌&&◌, ◌||◌, ◌==◌, List, [], ◌∷◌, Option, Some, None}
use Rattle.std.specs.Prelude.{Contains, bytes_eq, if◌then◌else◌}
use Rattle.std.specs.Ordering.{nat_cmp, is_lt}
use Rattle.std.specs.declared.cmp.Ordering.TheVariants.{Less}
use Rattle.std.specs.Cmp.Lexicographic.{slice_cmp}
use Rattle.std.specs.List.{flat_map, list_any}
use Rattle.std.specs.List.Sorted.{IsStrictlySortedBy}
use Rattle.label_patterns.specs.declared.condition.Condition.{Condition}
use Rattle.variant_table.specs.Conditions.{is_same_kind}
use Rattle.variant_table.specs.Entries.{Entry, Variant, sequences_in}
use Rattle.variant_table.specs.Gaps.{IsPair, pair_cmp, has_variant, inserted}
use Rattle.variant_table.specs.Places.{entry_with}

-- ---- what a difference is

-- v is a variant of the entry with source s under this condition, or under none
abbrev pub IsPairUnder : List Entry → List ℕ → List ℕ → Option Condition → Type 0
IsPairUnder table s v condition =
    (e : Entry) × Contains table e × (e.source ≡ s) × (x : Variant) × Contains e.variants x × (x.sequence ≡ v)
    × (x.condition ≡ condition)

-- two sequences, the lesser first, that are variants of each other, and not under the same conditions
pub record IsDifference (table : List Entry) (a b : List ℕ) : Type 0 where
  pub in_order : slice_cmp nat_cmp a b ≡ Less
  pub there : IsPair table a b
  pub back : IsPair table b a
  pub unlike : ((condition : Option Condition) → IsPairUnder table a b condition ↔ IsPairUnder table b a condition) → ⊥

-- the differences of the table, each once, in order
pub record AreDifferencesOf (table : List Entry) (pairs : List (List ℕ × List ℕ)) : Type 0 where
  pub rising : IsStrictlySortedBy pair_cmp pairs
  pub members : (a b : List ℕ) → Contains pairs (a, b) ↔ IsDifference table a b

-- ---- the differences as a list

-- both are none, or the same is asked of the same rule
abbrev pub is_same_condition : Option Condition → Option Condition → Bool
is_same_condition None None = true
is_same_condition (Some c) (Some d) = is_same_kind c.kind d.kind && c.rule == d.rule
is_same_condition c d = false

-- the entry has this variant under this condition
abbrev pub has_under : List ℕ → Option Condition → Entry → Bool
has_under v condition e = list_any (λ x. bytes_eq v x.sequence && is_same_condition condition x.condition) e.variants

-- e has v under a condition under which f doesn't have its own variant w
abbrev pub has_beyond : Entry → List ℕ → Entry → List ℕ → Bool
has_beyond e v f w = list_any (λ x. bytes_eq v x.sequence && not (has_under w x.condition f)) e.variants

-- e and f, which is the entry of its variant v, if there is one, have each other's source under other conditions
abbrev pub differ_by : Entry → List ℕ → Option Entry → Bool
differ_by e v None = false
differ_by e v (Some f) =
    is_lt (slice_cmp nat_cmp e.source v) && has_variant f e.source
    && (has_beyond e v f e.source || has_beyond f e.source e v)

-- the pair of e and its variant v, if it is a difference
abbrev pub difference_at : List Entry → Entry → List ℕ → List (List ℕ × List ℕ)
difference_at table e v = if differ_by e v (entry_with table v) then (e.source, v) ∷ [] else []

-- those of an entry
abbrev pub differences_at : List Entry → Entry → List (List ℕ × List ℕ)
differences_at table e = flat_map (difference_at table e) (sequences_in e.variants)

-- those of a table, in order
abbrev pub differences_of : List Entry → List (List ℕ × List ℕ)
differences_of table = inserted [] (flat_map (differences_at table) table)
