-- What a line gives again, and the first of its words that does.
use Rattle.std.specs.Prelude.{◌≡◌, ℕ, ◌<◌, Option, Some, List, Contains, slice_get}
use Rattle.ruleset_text.specs.declared.entry_notes.LinePoint.{LinePoint}
use Rattle.ruleset_text.specs.declared.fault.FaultPlace.{FaultPlace}
use Rattle.ruleset_text.specs.Definitions.{Definitions, all_names}
use Rattle.ruleset_text.specs.Entries.{EntryForm}
use Rattle.ruleset_text.specs.EntryFaults.{line_points}
use Rattle.ruleset_text.specs.LineFaults.{IsFirst, lexeme_place}
use Rattle.ruleset_text.specs.PlacedLexemes.{Placed, placed_lexemes}
use Rattle.variant_table.specs.declared.version.Version.{Version}
use Rattle.variant_table.specs.Entries.{Variant, Entry, TableValue, full_replacements}
use Rattle.variant_table.specs.Forms.{HasForm, entries_of, entry_of}
use Rattle.variant_table.specs.WellFormed.{AreApart}

-- the code point begins the source, and an entry of the table has it; of a range, one of its sources
abbrev pub BeginsOldSource : TableValue → EntryForm → LinePoint → Type 0
BeginsOldSource t form p =
    (p.sequence ≡ 0) × (p.index ≡ 0)
    × (e : Entry) × Contains (entries_of t.definitions form) e × (f : Entry) × Contains t.entries f
    × (f.source ≡ e.source)

-- the sequence of this number isn't apart from one of a lesser number
abbrev pub StandsBefore : List Variant → ℕ → Type 0
StandsBefore all n =
    (m : ℕ) × (m < n) × (v : Variant) × (w : Variant) × (slice_get all m ≡ Some v) × (slice_get all n ≡ Some w)
    × (AreApart v w → ⊥)

-- the code point begins a variant that is the source again, or one before it
abbrev pub BeginsOldVariant : Definitions → EntryForm → LinePoint → Type 0
BeginsOldVariant d form p = (p.index ≡ 0) × StandsBefore (full_replacements (entry_of d form.mapped)) p.sequence

-- the line is an entry or a range of the version, and of the first of its code points that is so this is told
pub record TellsFirst (Is : EntryForm → LinePoint → Type 0) (kind : ℕ → FaultPlace) (version : Version) (line : List ℕ)
    (place : Option FaultPlace) : Type 0 where
  pub form : EntryForm
  pub spelled : HasForm version line form
  pub point : LinePoint
  pub first : IsFirst (Is form) (line_points form line) point
  pub told : place ≡ Some (kind point.place)

-- the place is that of the first word of the line that is among the names that are defined
pub record TellsFirstName (d : Definitions) (line : List ℕ) (place : Option FaultPlace) : Type 0 where
  pub name : Placed
  pub first : IsFirst (λ w. Contains (all_names d) w.lexeme) (placed_lexemes line) name
  pub told : place ≡ Some (lexeme_place name)
