-- How a label is cut into the sources of a table (RFC 7940, sections 5.2 and 8.1).
use Rattle.std.specs.Prelude.{◌≡◌, ℕ, ◌+◌, None, List, [], ◌∷◌, length, Contains}
use Rattle.std.specs.List.{flat_map, AllByRecursion}
use Rattle.label_patterns.specs.Patterns.{Pattern}
use Rattle.label_patterns.specs.Matches.{Seen}
use Rattle.label_patterns.specs.Conditions.{ConditionHolds}
use Rattle.variant_table.specs.Entries.{Entry, TableValue, replacements}

-- entries of the table whose sources, joined, are the label
pub record AreJoined (table : TableValue) (segmentation : List Entry) (label : List ℕ) : Type 0 where
  pub of_table : AllByRecursion (Contains table.entries) segmentation
  pub joined : flat_map (λ e. e.source) segmentation ≡ label

-- the label is made of sources of the table; where they may stand is not asked
abbrev pub IsMadeOfSources : TableValue → List ℕ → Type 0
IsMadeOfSources table label = (segmentation : List Entry) × AreJoined table segmentation label

-- a label as the rules of the table see it
abbrev pub seen_under : TableValue → List ℕ → Seen
seen_under table label = record { sets = table.definitions.sets; label = label }

-- the condition of each source holds for the part of the label where it stands; the first one begins at this place
abbrev pub AllHold : List Pattern → Seen → ℕ → List Entry → Type 0
AllHold rules seen place [] = Unit {0}
AllHold rules seen place (e ∷ segmentation) =
    ConditionHolds rules seen e.condition place (place + length e.source)
    × AllHold rules seen (place + length e.source) segmentation

-- a segmentation of the label: entries of the table whose sources, joined, are the label, and each of which may stand
-- where it does
pub record IsSegmentation (table : TableValue) (segmentation : List Entry) (label : List ℕ) : Type 0 where
  pub of_table : AllByRecursion (Contains table.entries) segmentation
  pub joined : flat_map (λ e. e.source) segmentation ≡ label
  pub held : AllHold table.definitions.rules (seen_under table label) 0 segmentation

-- the label can be cut into sources of the table
abbrev pub HasSegmentation : TableValue → List ℕ → Type 0
HasSegmentation table label = (segmentation : List Entry) × IsSegmentation table segmentation label

-- no source has a condition
abbrev pub HasNoConditions : TableValue → Type 0
HasNoConditions table = AllByRecursion (λ e. e.condition ≡ None) table.entries

-- the label is a joining of sources and variants of the table
abbrev pub IsMadeOfReplacements : TableValue → List ℕ → Type 0
IsMadeOfReplacements table label =
    (parts : List (List ℕ)) × AllByRecursion (Contains (flat_map replacements table.entries)) parts
    × (flat_map (λ s. s) parts ≡ label)
