-- What a reading of a label records comes from an entry of the table.
use Rattle.std.proofs.Common.{◌≡◌, inl, inr, ℕ, ◌+◌, true, false, List, [], ◌∷◌, length, map, refl, sym, ap, subst, ◌∙◌}
use Rattle.std.specs.Prelude.{Option, Some, None}
use Rattle.std.specs.List.{AllByRecursion, Contains, list_any}
use Rattle.std.specs.Option.{is_some}
use Rattle.variant_dispositions.specs.Kinds.{Kind, kind_of_source, kind_of_variant}
use Rattle.variant_dispositions.specs.Kinds.Kind.{Unmapped, Untyped, Typed}
use Rattle.variant_dispositions.proofs.MemberLemmas.{any-told}
use Rattle.variant_table.specs.Entries.{Entry, TableValue, Variant, has_types, source_of, whole}
use Rattle.variant_table.proofs.MemberLemmas.{Contains-cases, Contains-head, Contains-later, Contains-none}
use Rattle.variant_list.specs.Readings.{Mapping, entry_of, kind_of, kinds_of, IsReadingOf, MayAllBeMade, MayBeMade}
use Rattle.variant_list.specs.Readings.Mapping.{Stays, Maps}

-- the kind of a source of the table that stays, or of a variant
pub data IsKindOf (table : TableValue) (kind : Kind) : Type 0 where
  of_source : (e : Entry) → Contains table.entries e → kind ≡ kind_of_source e.type → IsKindOf table kind
  of_variant : (e : Entry) (v : Variant) → Contains table.entries e → Contains e.variants v → kind ≡ kind_of_variant v.type → IsKindOf table kind

of_mapping : (table : TableValue) (label : List ℕ) (place : ℕ) (m : Mapping) → Contains table.entries (entry_of m) → MayBeMade table label place m → IsKindOf table (kind_of m)
of_mapping table label place (Stays e) there made = of_source e there refl
of_mapping table label place (Maps e v) there made = of_variant e v there made.0 refl

from-place : (table : TableValue) (label : List ℕ) (place : ℕ) (reading : List Mapping) (kind : Kind) → AllByRecursion (Contains table.entries) (map entry_of reading) → MayAllBeMade table label place reading
    → Contains (kinds_of reading) kind → IsKindOf table kind
from-place table label place [] kind there made c = absurd (Contains-none kind c)
from-place table label place (m ∷ reading) kind there made c = elim (Contains-cases (kind_of m) (kinds_of reading) kind c) [
  | inl same ↦ subst (IsKindOf table) same (of_mapping table label place m there.0 made.0)
  | inr later ↦ from-place table label (place + length (entry_of m).source) reading kind there.1 made.1 later
]

pub recorded-is : (table : TableValue) (label v : List ℕ) (reading : List Mapping) (kind : Kind) → IsReadingOf table label v reading → Contains (kinds_of reading) kind → IsKindOf table kind
recorded-is table label v reading kind is c = from-place table label 0 reading kind is.segmentation.of_table is.made c

-- ---- a table without types

typeless-whole : (table : TableValue) (e : Entry) (v : Variant) → has_types table.entries ≡ false → Contains table.entries e → Contains (whole e) v → v.type ≡ None
typeless-whole table e v none there c = by_type v.type refl
  where
    by_type : (type : Option ℕ) → v.type ≡ type → type ≡ None
    by_type None is = refl
    by_type (Some number) is = absurd (
        let some = (any-told (λ (w : Variant). is_some w.type) (whole e)).1 (v, c, ap is_some is) in
        let found = (any-told (λ (f : Entry). list_any (λ (w : Variant). is_some w.type) (whole f)) table.entries).1 (e, there, some) in
        let clash : false ≡ true = sym none ∙ found in cc)

pub typeless-kind : (table : TableValue) (number : ℕ) → has_types table.entries ≡ false → IsKindOf table (Typed number) → ⊥
typeless-kind table number none (of_source e there is) =
    let plain = typeless-whole table e (source_of e) none there (Contains-head (source_of e) e.variants) in
    let clash : Typed number ≡ Unmapped = is ∙ ap kind_of_source plain in cc
typeless-kind table number none (of_variant e v there among is) =
    let plain = typeless-whole table e v none there (Contains-later (source_of e) e.variants v among) in
    let clash : Typed number ≡ Untyped = is ∙ ap kind_of_variant plain in cc
