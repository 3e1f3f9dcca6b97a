-- What a label says of itself: each source that stands in it stays as it is (RFC 7940, section 8.1).
use Rattle.std.specs.Prelude.{ℕ, List, length, map, filter}
use Rattle.std.specs.List.{range_with_len}
use Rattle.reading_kinds.specs.Readings.{Substitution}
use Rattle.variant_table.specs.Entries.{TableValue}
use Rattle.variant_table.specs.Places.{entries_at}
use Rattle.variant_table.specs.Staying.{staying, may_stand}

-- the sources that stand at a place
abbrev pub staying_at : TableValue → List ℕ → ℕ → List Substitution
staying_at table label place = map staying (filter (may_stand table label place) (entries_at table.entries label place))

-- those of a label, place by place
abbrev pub staying_of : TableValue → List ℕ → List (List Substitution)
staying_of table label = map (staying_at table label) (range_with_len 0 (length label))
