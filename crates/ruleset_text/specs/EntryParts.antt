-- The parts that entries and ranges of a version may have, and the entries and ranges that have no others.
use Rattle.std.specs.Prelude.{Bool, true, ◌||◌, ◌&&◌, not, is_some, List, [], ◌∷◌}
use Rattle.std.specs.List.{list_all}
use Rattle.ruleset_text.specs.declared.entry_parts.EntryParts.{EntryParts}
use Rattle.ruleset_text.specs.Entries.{Mapped, EntryForm}

-- a type, a condition and '!' only where they may stand
abbrev pub is_within : Bool → Bool → Mapped → Bool
is_within named may_be_marked m =
    (named || not (is_some m.type_name)) && (named || not (is_some m.condition)) && (may_be_marked || not m.marked)

-- a source and its variants
abbrev pub are_within : EntryParts → List Mapped → Bool
are_within parts [] = true
are_within parts (source ∷ variants) =
    is_within parts.named parts.invalid source && list_all (is_within parts.named parts.blocked) variants

-- the entry or the range has no other parts
abbrev pub has_parts : EntryParts → EntryForm → Bool
has_parts parts form = are_within parts form.mapped && (parts.ranges || not (is_some form.last))
