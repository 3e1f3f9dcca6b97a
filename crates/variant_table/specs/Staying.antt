-- The sources that stand in a label, and stay as they are (RFC 7940, sections 5.2 and 8.1).
use Rattle.std.specs.Prelude.{ℕ, ◌+◌, ◌^◌, Bool, Option, List, length}
use Rattle.label_patterns.specs.declared.condition.Condition.{Condition}
use Rattle.label_patterns.specs.Tests.{condition_holds}
use Rattle.reading_kinds.specs.Readings.{Substitution}
use Rattle.variant_dispositions.specs.Kinds.{bit_of, kind_of_source}
use Rattle.variant_table.specs.Entries.{Entry, TableValue}
use Rattle.variant_table.specs.Segmentations.{seen_under}

-- the source as a substitution of itself, which records its reflexive type
abbrev pub staying : Entry → Substitution
staying e = record { covers = length e.source; kinds = 2 ^ bit_of (kind_of_source e.type); points = e.source }

-- whether a condition holds in the label for the source of the entry, from the place on
abbrev pub holds_for : TableValue → List ℕ → ℕ → Entry → Option Condition → Bool
holds_for table label place e condition =
    condition_holds table.definitions.rules (seen_under table label) condition place (place + length e.source)

-- whether the entry may be in a segmentation of the label, with its source at the place
abbrev pub may_stand : TableValue → List ℕ → ℕ → Entry → Bool
may_stand table label place e = holds_for table label place e e.condition
