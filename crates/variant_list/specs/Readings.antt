-- The readings of a label: the ways in which it gives a variant, and what each of them records (RFC 7940, sections
-- 5.3.4 and 8.2).
use Rattle.std.specs.Prelude.{◌≡◌, ℕ, ◌+◌, List, [], ◌∷◌, length, map, Contains}
use Rattle.std.specs.List.{flat_map}
use Rattle.label_patterns.specs.Conditions.{ConditionHolds}
use Rattle.variant_dispositions.specs.Kinds.{Kind, kind_of_source, kind_of_variant}
use Rattle.variant_table.specs.Entries.{Entry, TableValue, Variant}
use Rattle.variant_table.specs.Segmentations.{IsSegmentation, seen_under}

-- the source of an entry stays as it is, or one of its variants is put in its place
pub data Mapping : Type 0 where
  Stays : Entry → Mapping
  Maps : Entry → Variant → Mapping

abbrev pub entry_of : Mapping → Entry
entry_of (Stays e) = e
entry_of (Maps e v) = e

-- what stands there then
abbrev pub sequence_of : Mapping → List ℕ
sequence_of (Stays e) = e.source
sequence_of (Maps e v) = v.sequence

-- what is recorded: of a source that stays its reflexive type, of a variant its type
abbrev pub kind_of : Mapping → Kind
kind_of (Stays e) = kind_of_source e.type
kind_of (Maps e v) = kind_of_variant v.type

-- it may be made where the source stands in the label from the place on: the condition of the variant holds there
abbrev pub MayBeMade : TableValue → List ℕ → ℕ → Mapping → Type 0
MayBeMade table label place (Stays e) = Unit {0}
MayBeMade table label place (Maps e v) =
    Contains e.variants v
    × ConditionHolds table.definitions.rules (seen_under table label) v.condition place (place + length e.source)

-- each may be made where its source stands; the first source stands at this place
abbrev pub MayAllBeMade : TableValue → List ℕ → ℕ → List Mapping → Type 0
MayAllBeMade table label place [] = Unit {0}
MayAllBeMade table label place (m ∷ reading) =
    MayBeMade table label place m × MayAllBeMade table label (place + length (entry_of m).source) reading

-- a reading of v: the sources of some segmentation of the label stay, or are replaced, and so give v
pub record IsReadingOf (table : TableValue) (label v : List ℕ) (reading : List Mapping) : Type 0 where
  pub segmentation : IsSegmentation table (map entry_of reading) label
  pub made : MayAllBeMade table label 0 reading
  pub joined : flat_map sequence_of reading ≡ v

-- what it records, source by source
abbrev pub kinds_of : List Mapping → List Kind
kinds_of reading = map kind_of reading

-- clear: all readings of v record the same kinds. Else v is a duplicate variant (8.4)
abbrev pub IsClearVariant : TableValue → List ℕ → List ℕ → Type 0
IsClearVariant table label v =
    (one other : List Mapping) → IsReadingOf table label v one → IsReadingOf table label v other
    → (kind : Kind) → Contains (kinds_of one) kind → Contains (kinds_of other) kind
