-- The entries whose source begins a label at a place.
use Rattle.std.specs.Prelude.{◌≡◌, ◌↔◌, ℕ, ◌+◌, ◌<◌, ◌≤◌, List, [], ◌∷◌, ◌++◌, length, take, drop, find, bytes_eq}
use Rattle.std.specs.Prelude.{Option, AllPairs, Contains}
use Rattle.std.specs.List.{slice_range}
use Rattle.std.specs.Option.{option_to_list}
use Rattle.variant_table.specs.Entries.{Entry}

-- the value of a borrowed entry
abbrev pub EntryValue : Type 0
EntryValue = Entry

-- the entry with this source
abbrev pub entry_with : List Entry → List ℕ → Option Entry
entry_with table source = find (λ e. bytes_eq e.source source) table

-- the entries whose source is a beginning followed by some of the rest, by rising length
abbrev pub entries_from : List Entry → List ℕ → List ℕ → List Entry
entries_from table beginning [] = []
entries_from table beginning (c ∷ rest) =
    option_to_list (entry_with table (beginning ++ c ∷ [])) ++ entries_from table (beginning ++ c ∷ []) rest

-- the entries whose source begins the label at the place, by rising length
abbrev pub entries_at : List Entry → List ℕ → ℕ → List Entry
entries_at table label place = entries_from table [] (take 8 (drop place label))

-- the same for the sources that are longer than this
abbrev pub entries_longer : List Entry → List ℕ → ℕ → ℕ → List Entry
entries_longer table label place len =
    entries_from table (slice_range label place (place + len)) (drop len (take 8 (drop place label)))

-- the source begins the label at the place
abbrev pub BeginsAt : List ℕ → ℕ → Entry → Type 0
BeginsAt label place e = (rest : List ℕ) × (drop place label ≡ e.source ++ rest)

-- exactly the entries of the table whose source begins the label at the place, by rising source length
pub record AreEntriesAt (table : List Entry) (label : List ℕ) (place : ℕ) (entries : List Entry) : Type 0 where
  pub members : (e : Entry) → Contains entries e ↔ (Contains table e × BeginsAt label place e)
  pub rising : AllPairs (λ e f. length e.source < length f.source) entries
  pub few : length entries ≤ 8
