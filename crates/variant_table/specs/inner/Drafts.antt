-- A table as far as it is made, and what was found of an entry that is to be added.
use Rattle.std.specs.Prelude.{◌≡◌, ℕ, Bool, not, nat_lt, Option, None, List, length, map}
use Rattle.std.specs.List.{list_any}
use Rattle.ruleset_text.specs.declared.entry_form.Mapped as held
use Rattle.ruleset_text.specs.declared.fault.FoundFaults.{FoundFaults}
use Rattle.ruleset_text.specs.Definitions.{Definitions}
use Rattle.ruleset_text.specs.Entries.{EntryForm, Mapped}
use Rattle.ruleset_text.specs.EntryForms.{mapped}
use Rattle.ruleset_text.specs.EntryText.{IsForm}
use Rattle.variant_table.specs.declared.table_draft.TableDraft.{TableDraft}
use Rattle.variant_table.specs.declared.version.Version.TheVariants.{Three}
use Rattle.variant_table.specs.Conditions.{has_bad_class, is_too_large}
use Rattle.variant_table.specs.Entries.{TableValue, table_of}
use Rattle.variant_table.specs.Forms.{entries_of, knows_all, written_out}
use Rattle.variant_table.specs.WellFormed.{IsTable}
use Rattle.variant_table.specs.inner.Held.{IsCounted}

-- the table, and how many bytes its canonical text may have more, where the version limits them
pub record DraftSoFar : Type 0 where
  pub table : TableValue
  pub left : ℕ

abbrev pub draft_table : TableDraft → TableValue
draft_table d = table_of d.version d.definitions d.entries

abbrev pub so_far : TableDraft → DraftSoFar
so_far d = record { table = draft_table d; left = d.left }

-- what is left of the canonical text is counted
abbrev pub IsCountedSoFar : DraftSoFar → Type 0
IsCountedSoFar r = IsCounted r.table.version r.table.definitions r.left r.table.entries

abbrev pub IsCountedDraft : TableDraft → Type 0
IsCountedDraft d = IsCountedSoFar (so_far d)

-- the form of a source and its variants, and, if this is a range, its last code point
abbrev pub form_with : List held.Mapped → Option ℕ → EntryForm
form_with ms last = record { mapped = map mapped ms; last = last }

-- the faults that were found are those that an entry or a range has by itself; the class of the code points of a range
-- is asked for by itself
pub record AreFoundOf (d : Definitions) (form : EntryForm) (found : FoundFaults) : Type 0 where
  pub limit : found.limit ≡ list_any is_too_large (written_out form)
  pub name : found.name ≡ not (knows_all d form.mapped)
  pub class : form.last ≡ None → found.class ≡ list_any (has_bad_class d.properties) (entries_of d form)

-- the sequence is too long
abbrev pub is_long : Mapped → Bool
is_long m = nat_lt 8 (length m.points)

-- a line or an entry of this form may be added: its faults were found, and what is left before it is counted
pub record HasFound (line : EntryForm) (found : FoundFaults) (r : DraftSoFar) : Type 0 where
  pub form : IsForm line.mapped line.last
  pub faults : AreFoundOf r.table.definitions line found
  pub counted : IsCountedSoFar r

-- a ruleset as a builder holds it
pub record IsBuilt (d : TableDraft) : Type 0 where
  pub three : d.version ≡ Three
  pub table : IsTable (draft_table d)
  pub counted : IsCountedDraft d
