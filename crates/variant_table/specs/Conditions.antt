-- What may be wrong with a line and its entries.
use Rattle.std.specs.Prelude.{ℕ, ◌+◌, ◌++◌, ◌==◌, Bool, true, false, ◌||◌, ◌&&◌, not, nat_lt, is_some, Option, Some}
use Rattle.std.specs.Prelude.{None, List, [], ◌∷◌, length, bytes_eq, if◌then◌else◌}
use Rattle.std.specs.List.{list_any}
use Rattle.label_patterns.specs.declared.condition.Condition.{Condition}
use Rattle.label_patterns.specs.declared.condition.ConditionKind.{ConditionKind}
use Rattle.label_patterns.specs.declared.condition.ConditionKind.TheVariants.{When, Unless}
use Rattle.ruleset_text.specs.Classes.{is_bad_point}
use Rattle.ruleset_text.specs.Definitions.{Definitions}
use Rattle.ruleset_text.specs.Entries.{Mapped}
use Rattle.variant_table.specs.declared.version.Version.{Version}
use Rattle.variant_table.specs.declared.version.Version.TheVariants.{One, Two, Three}
use Rattle.variant_table.specs.Entries.{Variant, Entry, replacements, itself}
use Rattle.variant_table.specs.Canonical.{table_text, written_text}
use Rattle.variant_table.specs.Limits.{line_limit, text_limit, entry_limit}
use Rattle.idn_class.specs.declared.properties.Properties.{Properties}

-- a line that is too long, or one that ends, with its line feed, past the limit of the text, where it comes after so
-- many bytes
abbrev pub is_too_long : Version → ℕ → List ℕ → Bool
is_too_long version bytes line =
    nat_lt (line_limit version) (length line) || nat_lt (text_limit version) (bytes + length line + 1)

-- a source with more than 16 variants, or a sequence of more than 8 code points
abbrev pub is_too_large : List Mapped → Bool
is_too_large entry = nat_lt 17 (length entry) || list_any (λ m. nat_lt 8 (length m.points)) entry

-- a canonical text that is past the limit of a text; in version 1 it is no longer than what was read
abbrev pub is_text_too_long : Version → List ℕ → Bool
is_text_too_long One text = false
is_text_too_long Two text = nat_lt (text_limit Two) (length text)
is_text_too_long Three text = nat_lt (text_limit Three) (length text)

-- an entry that is too large; or, with those of the table, too many entries or too long a canonical text. Names are not
-- looked up for it
abbrev pub is_over_limit : Version → Definitions → List Entry → List (List Mapped) → Bool
is_over_limit version definitions table entries =
    nat_lt (entry_limit version) (length table + length entries) || list_any is_too_large entries
    || is_text_too_long version (table_text version definitions table ++ written_text entries)

-- a code point of another class than PVALID, CONTEXTJ and CONTEXTO
abbrev pub has_bad_point : Properties → List ℕ → Bool
has_bad_point properties s = list_any (is_bad_point properties) s

-- such a code point in the source or in a variant
abbrev pub has_bad_class : Properties → Entry → Bool
has_bad_class properties e = list_any (has_bad_point properties) (replacements e)

-- the same is asked of a rule
abbrev pub is_same_kind : ConditionKind → ConditionKind → Bool
is_same_kind When When = true
is_same_kind Unless Unless = true
is_same_kind k l = false

-- two conditions, which differ
abbrev pub differ : Option Condition → Option Condition → Bool
differ (Some c) (Some d) = not (is_same_kind c.kind d.kind && c.rule == d.rule)
differ c d = false

-- the variant has this sequence, and they haven't each a condition of its own
abbrev pub is_again : List ℕ → Option Condition → Variant → Bool
is_again sequence condition v = bytes_eq sequence v.sequence && not (differ condition v.condition)

-- the variant is one of these again
abbrev pub stands_in : List Variant → Variant → Bool
stands_in before v = list_any (λ u. is_again u.sequence u.condition v) before

-- the number of the first that is one of those before it; these stand before the list
abbrev pub first_again : List Variant → List Variant → Option ℕ
first_again before [] = None
first_again before (v ∷ variants) =
    if stands_in before v then Some (length before) else first_again (before ++ v ∷ []) variants

-- the first variant that is given again: it is equal to one before it, unless their conditions differ; or to the
-- source, whose number is 0
abbrev pub given_again : Entry → Option ℕ
given_again e = first_again [] (itself e ∷ e.variants)

abbrev pub has_repeat : Entry → Bool
has_repeat e = is_some (given_again e)

-- a source that an entry of the table has
abbrev pub has_source_in : List Entry → Entry → Bool
has_source_in table e = list_any (λ f. bytes_eq f.source e.source) table
