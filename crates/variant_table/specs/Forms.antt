-- What the line of an entry or of a range says: which versions have its form, and its entries. Names become numbers
-- here.
use Rattle.std.specs.Prelude.{ℕ, Bool, true, false, ◌&&◌, ◌==◌, Option, Some, None, List, [], ◌∷◌, map, slice_index}
use Rattle.std.specs.Prelude.{slice_index_or, bytes_eq, IsTrue, ◌≡◌, if◌then◌else◌}
use Rattle.std.specs.List.{list_all, range_with_len}
use Rattle.std.specs.Option.{option_map}
use Rattle.label_patterns.specs.declared.condition.Condition.{Condition}
use Rattle.ruleset_text.specs.declared.named_condition.NamedCondition.{NamedCondition}
use Rattle.ruleset_text.specs.Definitions.{Definitions, type_name, type_names, type_number}
use Rattle.ruleset_text.specs.Entries.{Mapped, EntryForm}
use Rattle.ruleset_text.specs.EntryParts.{has_parts}
use Rattle.ruleset_text.specs.EntryStops.{IsEntryOf}
use Rattle.ruleset_text.specs.declared.entry_parts.EntryParts.{EntryParts}
use Rattle.ruleset_text.specs.Names.{is_one_of, number_of, predefined_types}
use Rattle.variant_table.specs.declared.version.Version.{Version}
use Rattle.variant_table.specs.declared.version.Version.TheVariants.{One, Two, Three}
use Rattle.variant_table.specs.Entries.{Variant, Entry, entry_from, source_of}
use Rattle.variant_table.specs.Ranges.{range_size}

-- ---- the forms of each version

-- version 1 has no '!' and no ranges, version 2 no '!' before a source, and neither has types or conditions by their
-- names; version 3 has all
abbrev pub parts_of : Version → EntryParts
parts_of One = record { invalid = false; blocked = false; ranges = false; named = false }
parts_of Two = record { invalid = false; blocked = true; ranges = true; named = false }
parts_of Three = record { invalid = true; blocked = true; ranges = true; named = true }

abbrev pub has_form : Version → EntryForm → Bool
has_form version form = has_parts (parts_of version) form

-- the line is an entry or a range of this form, which the version has
abbrev pub HasForm : Version → List ℕ → EntryForm → Type 0
HasForm version line form = IsEntryOf (parts_of version) line form

-- ---- the entries of a form, with their names

-- the source of a range with this code point
abbrev pub with_point : Mapped → ℕ → Mapped
with_point m c = record m { points = c ∷ [] }

-- a source and its variants; of a range, one source for each of its code points, with what stands at the range
abbrev pub written_to : Option ℕ → List Mapped → List (List Mapped)
written_to None mapped = mapped ∷ []
written_to (Some last) [] = []
written_to (Some last) (m ∷ mapped) =
    map (λ c. with_point m c ∷ []) (range_with_len (slice_index m.points 0) (range_size (slice_index m.points 0) last))

abbrev pub written_out : EntryForm → List (List Mapped)
written_out form = written_to form.last form.mapped

-- ---- names and numbers

-- the rule that a condition names is defined
abbrev pub knows_rule : Definitions → Option NamedCondition → Bool
knows_rule definitions None = true
knows_rule definitions (Some c) = is_one_of definitions.rule_names c.rule

-- the type that a source or a variant names is defined
abbrev pub knows_type : Definitions → Option (List ℕ) → Bool
knows_type definitions None = true
knows_type definitions (Some name) = is_one_of (type_names definitions) name

abbrev pub knows_names : Definitions → Mapped → Bool
knows_names definitions m = knows_type definitions m.type_name && knows_rule definitions m.condition

-- all names of a source and its variants are
abbrev pub knows_all : Definitions → List Mapped → Bool
knows_all definitions mapped = list_all (knows_names definitions) mapped

-- a condition by the number of its rule; a name that isn't defined has a number after those that are
abbrev pub numbered : Definitions → NamedCondition → Condition
numbered definitions c = record { kind = c.kind; rule = number_of definitions.rule_names c.rule }

-- the name of this number
abbrev pub name_at : List (List ℕ) → ℕ → List ℕ
name_at names number = slice_index_or names number []

-- a condition by the name of its rule
abbrev pub named : Definitions → Condition → NamedCondition
named definitions c = record { kind = c.kind; rule = name_at definitions.rule_names c.rule }

-- ---- the entries of a form

-- the numbers of the types that '!' stands for: before a source it is 'as invalid', and before a variant 'as blocked'
abbrev pub source_mark : ℕ
source_mark = 0

abbrev pub variant_mark : ℕ
variant_mark = 1

-- the number of the type, where '!' stands for this one
abbrev pub type_by : ℕ → Definitions → Bool → Option (List ℕ) → Option ℕ
type_by mark definitions true name = Some mark
type_by mark definitions false name = option_map (type_number definitions) name

abbrev pub variant_by : ℕ → Definitions → Mapped → Variant
variant_by mark definitions m = record {
  sequence = m.points;
  type = type_by mark definitions m.marked m.type_name;
  condition = option_map (numbered definitions) m.condition;
}

-- a source and its variants
abbrev pub sequences_of : Definitions → List Mapped → List Variant
sequences_of definitions [] = []
sequences_of definitions (source ∷ variants) =
    variant_by source_mark definitions source ∷ map (variant_by variant_mark definitions) variants

-- the entry of a source and its variants
abbrev pub entry_of : Definitions → List Mapped → Entry
entry_of definitions mapped = entry_from (sequences_of definitions mapped)

abbrev pub entries_of : Definitions → EntryForm → List Entry
entries_of definitions form = map (entry_of definitions) (written_out form)

-- the line spells these entries, by a form that the version has, in which each name is defined
abbrev pub SpellsEntries : Version → Definitions → List ℕ → List Entry → Type 0
SpellsEntries version definitions line entries =
    (form : EntryForm) × HasForm version line form × IsTrue (knows_all definitions form.mapped)
    × (entries ≡ entries_of definitions form)

-- ---- an entry as a form

-- it is the type of this number
abbrev pub is_type : ℕ → Option ℕ → Bool
is_type mark None = false
is_type mark (Some number) = number == mark

-- the name of a type, unless '!' stands for it
abbrev pub unmarked_name : ℕ → Definitions → Option ℕ → Option (List ℕ)
unmarked_name mark definitions type = if is_type mark type then None else option_map (type_name definitions) type

-- a source or a variant as a line writes it, where '!' stands for this type
abbrev pub mapped_by : ℕ → Definitions → Variant → Mapped
mapped_by mark definitions v = record {
  marked = is_type mark v.type;
  points = v.sequence;
  type_name = unmarked_name mark definitions v.type;
  condition = option_map (named definitions) v.condition;
}

-- the source and the variants of an entry
abbrev pub as_written : Definitions → Entry → List Mapped
as_written definitions e =
    mapped_by source_mark definitions (source_of e) ∷ map (mapped_by variant_mark definitions) e.variants

-- ---- the same from the form itself, which may have 'as blocked' or 'as invalid' where '!' may stand

-- the name is that of this predefined type
abbrev pub is_name_of : ℕ → Option (List ℕ) → Bool
is_name_of mark None = false
is_name_of mark (Some name) = bytes_eq (slice_index_or predefined_types mark []) name

abbrev pub normal_by : ℕ → Mapped → Mapped
normal_by mark m = if is_name_of mark m.type_name then record m { marked = true; type_name = None } else m

abbrev pub normal : List Mapped → List Mapped
normal [] = []
normal (source ∷ variants) = normal_by source_mark source ∷ map (normal_by variant_mark) variants
