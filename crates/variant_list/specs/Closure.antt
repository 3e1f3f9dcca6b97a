-- Which labels may collide at all under a table (RFC 7940, section 5.1): those that are cut into parts which go
-- together, whichever has the other as a variant. Conditions and types are set aside here.
use Rattle.std.specs.Prelude.{◌≡◌, ◌⊎◌, ℕ, zero, suc, List, [], ◌∷◌, ◌++◌, length, map, Contains}
use Rattle.std.specs.Prelude.{bytes_eq, if◌then◌else◌}
use Rattle.std.specs.List.{flat_map, list_any}
use Rattle.variant_table.specs.Entries.{Entry, TableValue, replacements}

-- one is the source of an entry, and the other is that source, too, or one of its variants
abbrev pub GoTogether : TableValue → List ℕ → List ℕ → Type 0
GoTogether table a b =
    (e : Entry) × Contains table.entries e
    × (((e.source ≡ a) × Contains (replacements e) b) ⊎ ((e.source ≡ b) × Contains (replacements e) a))

-- as many parts as others, each of which goes together with the one of the same number
abbrev pub PairUp : TableValue → List (List ℕ) → List (List ℕ) → Type 0
PairUp table [] [] = Unit {0}
PairUp table [] (b ∷ others) = ⊥
PairUp table (a ∷ parts) [] = ⊥
PairUp table (a ∷ parts) (b ∷ others) = GoTogether table a b × PairUp table parts others

-- v and w are near: they are cut into such parts
abbrev pub AreNear : TableValue → List ℕ → List ℕ → Type 0
AreNear table v w =
    (parts : List (List ℕ)) × (others : List (List ℕ))
    × PairUp table parts others × (flat_map (λ a. a) parts ≡ v) × (flat_map (λ b. b) others ≡ w)

-- ---- the same labels, as lists that compute

-- what goes together with a sequence by an entry, and by any entry of a table
abbrev pub partners_in : List ℕ → Entry → List (List ℕ)
partners_in a e =
    (if bytes_eq e.source a then replacements e else [])
    ++ (if list_any (bytes_eq a) (replacements e) then e.source ∷ [] else [])

abbrev pub partners : TableValue → List ℕ → List (List ℕ)
partners table a = flat_map (partners_in a) table.entries

-- the ways to cut a label into a first part, which isn't empty, and a rest
abbrev pub splits : List ℕ → List (List ℕ × List ℕ)
splits [] = []
splits (c ∷ label) = (c ∷ [], label) ∷ map (λ s. (c ∷ s.0, s.1)) (splits label)

-- each of these, and then each of those
abbrev pub joined_each : List (List ℕ) → List (List ℕ) → List (List ℕ)
joined_each parts rests = flat_map (λ b. map (λ w. b ++ w) rests) parts

-- the labels that are near a label, cut into at most so many parts
abbrev pub near_within : TableValue → ℕ → List ℕ → List (List ℕ)
near_within table n [] = [] ∷ []
near_within table zero (c ∷ label) = []
near_within table (suc n) (c ∷ label) =
    flat_map (λ s. joined_each (partners table s.0) (near_within table n s.1)) (splits (c ∷ label))

abbrev pub near : TableValue → List ℕ → List (List ℕ)
near table label = near_within table (length label) label
