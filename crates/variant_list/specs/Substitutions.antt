-- The substitutions of a label under a table: what may stand in the place of which of its code points (RFC 7940,
-- sections 5.2 and 5.3). The variant graph of a label is laid out from them.
use Rattle.std.specs.Prelude.{ℕ, zero, suc, ◌+◌, ◌-◌, ◌^◌, Bool, List, [], ◌∷◌, ◌++◌, length, map, filter}
use Rattle.std.specs.Prelude.{sum_by, slice_index_or}
use Rattle.std.specs.List.{flat_map}
use Rattle.variant_table.specs.Entries.{Entry, TableValue, Variant}
use Rattle.variant_table.specs.Places.{entries_at}
use Rattle.variant_table.specs.Staying.{staying, holds_for, may_stand}
use Rattle.reading_kinds.specs.Readings.{Substitution}
use Rattle.variant_dispositions.specs.Kinds.{bit_of, kind_of_variant}

-- what substitutions spell, as a list that computes: from each place on what they spell, and at the end the empty label
abbrev pub spelled_from_each : List (List Substitution) → List (List (List ℕ))
spelled_from_each [] = ([] ∷ []) ∷ []
spelled_from_each (here ∷ later) =
    flat_map (λ u. map (λ w. u.points ++ w) (slice_index_or (spelled_from_each later) (u.covers - 1) [])) here
    ∷ spelled_from_each later

abbrev pub spelled_by : List (List Substitution) → List (List ℕ)
spelled_by substitutions = slice_index_or (spelled_from_each substitutions) 0 []

-- how many substitutions there are, and how many code points they have: each is an edge of the variant graph
abbrev pub substitution_count : List (List Substitution) → ℕ
substitution_count = sum_by length

abbrev pub points_in : List Substitution → ℕ
points_in = sum_by (λ u. length u.points)

abbrev pub substitution_edges : List (List Substitution) → ℕ
substitution_edges = sum_by points_in

-- how many places their variant graph has: before, between and after the code points of the label, and between those of
-- each substitution
abbrev pub substitution_places : List (List Substitution) → ℕ
substitution_places substitutions =
    length substitutions + 1 + substitution_edges substitutions - substitution_count substitutions

-- ---- the substitutions of a label under a table

-- a variant of the entry stands in the place of its source
abbrev pub substitution_of : Entry → Variant → Substitution
substitution_of e v =
    record { covers = length e.source; kinds = 2 ^ bit_of (kind_of_variant v.type); points = v.sequence }

-- whether the variant may be put in the place of the source, which may stand at the place
abbrev pub may_replace : TableValue → List ℕ → ℕ → Entry → Variant → Bool
may_replace table label place e v = holds_for table label place e v.condition

abbrev pub substitutions_of_entry : TableValue → List ℕ → ℕ → Entry → List Substitution
substitutions_of_entry table label place e =
    staying e ∷ map (substitution_of e) (filter (may_replace table label place e) e.variants)

-- those at a place of the label
abbrev pub substitutions_at : TableValue → List ℕ → ℕ → List Substitution
substitutions_at table label place =
    flat_map (substitutions_of_entry table label place)
    (filter (may_stand table label place) (entries_at table.entries label place))

-- those at so many places, from this one on
abbrev pub substitutions_from : TableValue → List ℕ → ℕ → ℕ → List (List Substitution)
substitutions_from table label place zero = []
substitutions_from table label place (suc n) =
    substitutions_at table label place ∷ substitutions_from table label (suc place) n

abbrev pub substitutions_of : TableValue → List ℕ → List (List Substitution)
substitutions_of table label = substitutions_from table label 0 (length label)
