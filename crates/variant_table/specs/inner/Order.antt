-- The order of a table's sources.
use Rattle.std.specs.Prelude.{◌≡◌, ℕ, ◌<◌, ◌≤◌, Bool, ◌&&◌, nat_lt, nat_eq, List, [], ◌∷◌, ◌++◌, length, slice_index}
use Rattle.std.specs.Prelude.{slice_index_or, Contains, IsPermutation}
use Rattle.std.specs.Ordering.{nat_cmp}
use Rattle.std.specs.declared.cmp.Ordering.TheVariants.{Less, Greater}
use Rattle.std.specs.Cmp.Lexicographic.{slice_cmp}
use Rattle.std.specs.List.{range_with_len, starts_with}
use Rattle.variant_table.specs.declared.ordered_entries.SourcePlace.{SourcePlace}
use Rattle.variant_table.specs.declared.ordered_entries.SourcePlace.TheVariants.{Found, Absent}
use Rattle.variant_table.specs.Entries.{Entry, entry_from}

-- the source of the entry whose number stands at the place
abbrev pub source_at : List Entry → List ℕ → ℕ → List ℕ
source_at table order place = (slice_index_or table (slice_index order place) (entry_from [])).source

-- the numbers of the entries, each once, so that their sources rise
pub record IsOrderOf (table : List Entry) (order : List ℕ) : Type 0 where
  pub numbers : IsPermutation (range_with_len 0 (length table)) order
  pub rising : (i j : ℕ) → i < j → j < length order →
      slice_cmp nat_cmp (source_at table order i) (source_at table order j) ≡ Less

-- the sources before the place are less than this one, and those from the place on are greater
pub record IsGapFor (table : List Entry) (order : List ℕ) (source : List ℕ) (place : ℕ) : Type 0 where
  pub within : place ≤ length order
  pub before : (i : ℕ) → i < place → slice_cmp nat_cmp (source_at table order i) source ≡ Less
  pub after : (i : ℕ) → place ≤ i → i < length order → slice_cmp nat_cmp (source_at table order i) source ≡ Greater

-- the source stands at the place that is found; or it stands nowhere, and the place is where it would stand
abbrev pub IsPlaceFor : List Entry → List ℕ → List ℕ → SourcePlace → Type 0
IsPlaceFor table order source (Found place) = (place < length order) × (source_at table order place ≡ source)
IsPlaceFor table order source (Absent place) = IsGapFor table order source place

-- there is a source at the place that begins with the sequence
abbrev pub begins_at : List Entry → List ℕ → ℕ → List ℕ → Bool
begins_at table order place s = nat_lt place (length order) && starts_with nat_eq (source_at table order place) s

-- no source is longer than the sequence and begins with it
abbrev pub HasNoLonger : List Entry → List ℕ → Type 0
HasNoLonger table s = (e : Entry) (c : ℕ) (rest : List ℕ) → Contains table e → e.source ≡ s ++ c ∷ rest → ⊥
