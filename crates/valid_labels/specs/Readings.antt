-- What is told of a label by its readings (RFC 7940, sections 8.2 to 8.4), as lists that compute.
use Rattle.std.specs.Prelude.{ℕ, ◌-◌, ◌&&◌, nat_eq, bytes_eq, Bool, List, [], ◌∷◌, Option, Some, None, filter, map}
use Rattle.std.specs.Prelude.{slice_index_or, if◌then◌else◌}
use Rattle.std.specs.List.{flat_map, list_all, list_any}
use Rattle.reading_kinds.specs.Readings.{Substitution, points_of}
use Rattle.variant_dispositions.specs.declared.action.Action.{Action}
use Rattle.variant_dispositions.specs.declared.variant.VariantDisposition.{VariantDisposition}
use Rattle.variant_dispositions.specs.declared.variant.VariantDisposition.TheVariants.{Clear, Unclear}
use Rattle.variant_dispositions.specs.Actions.{disposition}
use Rattle.variant_dispositions.specs.Kinds.{Kind, bit_of, recorded}

-- the cuts into these substitutions: from each place on, and at the end the empty one
abbrev pub cuts_from_each : List (List Substitution) → List (List (List Substitution))
cuts_from_each [] = ([] ∷ []) ∷ []
cuts_from_each (here ∷ later) =
    flat_map (λ u. map (λ cut. u ∷ cut) (slice_index_or (cuts_from_each later) (u.covers - 1) [])) here
    ∷ cuts_from_each later

-- the readings of v
abbrev pub readings_of : List (List Substitution) → List ℕ → List (List Substitution)
readings_of substitutions v =
    filter (λ cut. bytes_eq (points_of cut) v) (slice_index_or (cuts_from_each substitutions) 0 [])

-- both record the same kinds
abbrev pub has_kind : List Kind → Kind → Bool
has_kind kinds kind = list_any (λ other. nat_eq (bit_of other) (bit_of kind)) kinds

abbrev pub are_same : List Kind → List Kind → Bool
are_same kinds others = list_all (has_kind others) kinds && list_all (has_kind kinds) others

-- what is told by what the readings record; nothing where there is none
abbrev pub told_of : (ℕ → Bool) → List Action → List (List Kind) → Option VariantDisposition
told_of matched actions [] = None
told_of matched actions (first ∷ others) =
    Some (if list_all (are_same first) others then Clear (disposition matched actions first) else Unclear)

abbrev pub told_by : (ℕ → Bool) → List Action → List (List Substitution) → List ℕ → Option VariantDisposition
told_by matched actions substitutions v = told_of matched actions (map recorded (readings_of substitutions v))
