-- What goes together with the parts of a label, as substitutions.
use Rattle.std.specs.Prelude.{ℕ, zero, suc, ◌-◌, min, List, [], ◌∷◌, ◌++◌, length, map, take, drop}
use Rattle.std.specs.List.{flat_map}
use Rattle.variant_table.specs.Entries.{Entry, TableValue, replacements}
use Rattle.variant_table.specs.Places.{entries_at}
use Rattle.reading_kinds.specs.Readings.{Substitution}
use Rattle.variant_list.specs.Reversed.{Group, sources_of}

-- these sequences in the place of so many code points
abbrev pub put_for : ℕ → List (List ℕ) → List Substitution
put_for covers sequences = map (λ s. record { covers = covers; kinds = 0; points = s }) sequences

-- what stands in the place of a source
abbrev pub near_source : Entry → List Substitution
near_source e = put_for (length e.source) (replacements e)

-- what has so many code points from a place on as a variant
abbrev pub near_variant : List Group → List ℕ → ℕ → ℕ → List Substitution
near_variant groups label place count = put_for count (sources_of groups (take count (drop place label)))

-- the same for each count up to this one
abbrev pub near_variants : List Group → List ℕ → ℕ → ℕ → List Substitution
near_variants groups label place zero = []
near_variants groups label place (suc n) = near_variants groups label place n ++ near_variant groups label place (suc n)

-- all that begin at a place
abbrev pub near_at : TableValue → List Group → List ℕ → ℕ → List Substitution
near_at table groups label place =
    flat_map near_source (entries_at table.entries label place)
    ++ near_variants groups label place (min (length label - place) 8)

-- those at so many places, from this one on
abbrev pub near_from : TableValue → List Group → List ℕ → ℕ → ℕ → List (List Substitution)
near_from table groups label place zero = []
near_from table groups label place (suc n) =
    near_at table groups label place ∷ near_from table groups label (suc place) n
