-- How a table lies in memory: sequences are parts of one vector of code points, entries are parts of the sequences.
use Rattle.std.specs.Prelude.{◌≡◌, ℕ, ◌+◌, ◌<◌, ◌≤◌, Option, Some, None, List, length, map, All}
use Rattle.std.specs.List.{AllByRecursion, slice_range}
use Rattle.label_patterns.specs.declared.condition.Condition.{Condition}
use Rattle.ruleset_text.specs.declared.named_condition.NamedCondition.{NamedCondition}
use Rattle.ruleset_text.specs.Definitions.{Definitions}
use Rattle.ruleset_text.specs.Entries.{Mapped}
use Rattle.ruleset_text.specs.EntryText.{mark_text, type_text}
use Rattle.variant_dispositions.specs.Kinds.{IsTypeNumber}
use Rattle.variant_table.specs.declared.sequences.Span.{Span}
use Rattle.variant_table.specs.declared.sequences.HeldSequence.{HeldSequence}
use Rattle.variant_table.specs.Entries.{Variant, Entry, entry_from}
use Rattle.variant_table.specs.declared.version.Version.{Version}
use Rattle.variant_table.specs.declared.version.Version.TheVariants.{One, Two, Three}
use Rattle.variant_table.specs.Canonical.{table_text}
use Rattle.variant_table.specs.Forms.{name_at}
use Rattle.variant_table.specs.Limits.{text_limit}
use Rattle.variant_table.specs.WellFormed.{IsNamed}

-- the part of a list that a span names
abbrev pub part_at : {X : Type 0} → List X → Span → List X
part_at xs s = slice_range xs s.start s.end

-- the sequences that the parts of a list of code points name, with their types and conditions
abbrev pub parts_of : List ℕ → List HeldSequence → List Variant
parts_of points parts =
    map (λ p. record { sequence = part_at points p.span; type = p.variant_type; condition = p.condition }) parts

-- a span within the limit
abbrev pub IsSpanBelow : ℕ → Span → Type 0
IsSpanBelow limit s = (s.start ≤ s.end) × (s.end ≤ limit)

-- parts within the limit, of types whose kinds have a bit in a word
pub record IsPartBelow (limit : ℕ) (p : HeldSequence) : Type 0 where
  pub span : IsSpanBelow limit p.span
  pub type : IsTypeNumber p.variant_type

abbrev pub ArePartsBelow : ℕ → List HeldSequence → Type 0
ArePartsBelow limit parts = All (IsPartBelow limit) parts

-- a span within the limit that is not empty
abbrev pub IsEntryBelow : ℕ → Span → Type 0
IsEntryBelow limit s = (s.start < s.end) × (s.end ≤ limit)

-- such spans, one for each entry
abbrev pub AreEntriesBelow : ℕ → List Span → Type 0
AreEntriesBelow limit spans = All (IsEntryBelow limit) spans

-- the entry whose sequences the span names
abbrev pub entry_at : List Variant → Span → Entry
entry_at sequences s = entry_from (part_at sequences s)

-- the entries whose sequences the spans name
abbrev pub entries_of : List Variant → List Span → List Entry
entries_of sequences spans = map (entry_at sequences) spans

-- none of the sequences is empty
abbrev pub HasNoEmptySequence : List Mapped → Type 0
HasNoEmptySequence entry = AllByRecursion (λ m. 0 < length m.points) entry

-- how many bytes of a canonical text are counted: none in version 1, which doesn't limit them
abbrev pub counted : Version → List ℕ → ℕ
counted One text = 0
counted Two text = length text
counted Three text = length text

-- the canonical text of a table may have so many bytes more, where the version limits them; and the names of its
-- entries are defined
pub record IsCounted (version : Version) (definitions : Definitions) (left : ℕ) (table : List Entry) : Type 0 where
  pub count : counted version (table_text version definitions table) + left ≡ text_limit version
  pub named : AllByRecursion (IsNamed definitions) table

-- what is left of so many bytes after others: nothing, if these are more
abbrev pub IsLeft : ℕ → ℕ → Option ℕ → Type 0
IsLeft left count None = left < count
IsLeft left count (Some rest) = count + rest ≡ left

-- a condition by the name of its rule, which is one of these
abbrev pub named_in : List (List ℕ) → Condition → NamedCondition
named_in names c = record { kind = c.kind; rule = name_at names c.rule }

-- how many bytes '!', or ' as ' and the name of a type, have
abbrev pub type_len : Mapped → ℕ
type_len m = length (mark_text m.marked) + length (type_text m.type_name)
