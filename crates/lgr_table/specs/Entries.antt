-- The entries of a table, by those of a file (RFC 7940, section 5).
use Rattle.std.specs.Prelude.{◌≡◌, ℕ, ◌≤◌, ◌&&◌, ◌||◌, Bool, not, Option, None, List, All}
use Rattle.std.specs.Prelude.{filter, find, is_some, length, map, option_and_then}
use Rattle.std.specs.List.{flat_map, list_any}
use Rattle.std.specs.Option.{option_map}
use Rattle.lgr_text.specs.Records as lgr
use Rattle.lgr_text.specs.Repertoire.{has_types, is_reflexive, kept_sources, may_be}
use Rattle.lgr_table.specs.Numbers.{Numbering, numbered_condition, type_number}
use Rattle.variant_table.specs.Entries.{Entry, Variant}

-- ---- its variants

-- the types and conditions go by their numbers
abbrev pub variant_of : Numbering → lgr.Variant → Variant
variant_of n v = record {
  sequence = v.points;
  type = type_number n v.type_name;
  condition = option_map (numbered_condition n) v.condition;
}

abbrev pub variants_of : (ℕ → Bool) → Numbering → List ℕ → List lgr.Variant → List Variant
variants_of may n source variants =
    map (variant_of n) (filter (λ v. may_be may v.points && not (is_reflexive source v)) variants)

abbrev pub reflexive_type : Numbering → List ℕ → List lgr.Variant → Option ℕ
reflexive_type n source variants =
    option_and_then (λ v. type_number n v.type_name) (find (is_reflexive source) variants)

-- ---- the entries

abbrev pub entry_with : (ℕ → Bool) → Numbering → lgr.Entry → List ℕ → Entry
entry_with may n e source = record {
  source = source;
  type = reflexive_type n source e.variants;
  condition = option_map (numbered_condition n) e.condition;
  variants = variants_of may n source e.variants;
}

-- those of an entry of the file, and those of all entries, in their order
abbrev pub entries_of : (ℕ → Bool) → Numbering → lgr.Entry → List Entry
entries_of may n e = map (entry_with may n e) (kept_sources may e)

abbrev pub all_entries : (ℕ → Bool) → Numbering → List lgr.Entry → List Entry
all_entries may n entries = flat_map (entries_of may n) entries

-- ---- what a table can't say

-- a source has one reflexive variant at most, without a condition
abbrev pub HasOneType : lgr.Entry → List ℕ → Type 0
HasOneType e source =
    (length (filter (is_reflexive source) e.variants) ≤ 1)
    × All (λ v. v.condition ≡ None) (filter (is_reflexive source) e.variants)

abbrev pub AreOfOneType : (ℕ → Bool) → List lgr.Entry → Type 0
AreOfOneType may entries = All (λ e. All (HasOneType e) (kept_sources may e)) entries

-- a variant has a type, or none; or it has none and is its source
abbrev pub has_type : List ℕ → lgr.Variant → Bool
has_type source v = is_some v.type_name

abbrev pub lacks_type : List ℕ → lgr.Variant → Bool
lacks_type source v = not (is_some v.type_name)

abbrev pub stays_untyped : List ℕ → lgr.Variant → Bool
stays_untyped source v = lacks_type source v && is_reflexive source v

-- some source and a variant of it that the table keeps are so
abbrev pub keeps : (ℕ → Bool) → (List ℕ → lgr.Variant → Bool) → List lgr.Entry → Bool
keeps may is_so entries = list_any
    (λ e. list_any (λ v. list_any (λ s. may_be may v.points && is_so s v) (kept_sources may e)) e.variants) entries

-- where some variant has a type, whatever the table leaves out, one without a type is told from that one, and from a
-- source that stays as it is (7.2, 8.4). In a table it is, too, but if it is its source, or if the table keeps no type:
-- then variants without a type have one of their own
abbrev pub needs_type : (ℕ → Bool) → List lgr.Entry → Bool
needs_type may entries = has_types entries
    && (keeps may stays_untyped entries || (keeps may lacks_type entries && not (keeps may has_type entries)))
