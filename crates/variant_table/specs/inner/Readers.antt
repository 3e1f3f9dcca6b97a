-- What a reader has read of a text, and how it takes a line.
use Rattle.std.specs.Prelude.{ℕ, Option, Some, None}
use Rattle.ruleset_text.specs.declared.fault.FaultPlace.{FaultPlace}
use Rattle.ruleset_text.specs.Entries.{EntryForm}
use Rattle.ruleset_text.specs.EntryFaults.{Notes, source_place, variant_place}
use Rattle.ruleset_text.specs.EntryText.{IsForm}
use Rattle.variant_table.specs.declared.fault.EntryFault.{EntryFault}
use Rattle.variant_table.specs.declared.fault.EntryFault.TheVariants as faults
use Rattle.variant_table.specs.declared.fault.TableFault.{TableFault}
use Rattle.variant_table.specs.declared.fault.TableFault.TheVariants as tables
use Rattle.variant_table.specs.Entries.{TableValue}
use Rattle.variant_table.specs.LinePlaces.{AreFaultsOf, form_place}
use Rattle.variant_table.specs.inner.Drafts.{DraftSoFar, IsCountedSoFar}

-- a table, how many bytes its canonical text may have more, where the version limits them, and what is noted of the
-- line that is read
pub record ReadSoFar : Type 0 where
  pub table : TableValue
  pub left : ℕ
  pub notes : Notes

-- the table as far as it is made
abbrev pub drafted : ReadSoFar → DraftSoFar
drafted r = record { table = r.table; left = r.left }

abbrev pub IsCountedIn : ReadSoFar → Type 0
IsCountedIn r = IsCountedSoFar (drafted r)

-- a line of this form may be added: its faults are noted, and what is left before it is counted
pub record IsNotedAs (line : EntryForm) (r : ReadSoFar) : Type 0 where
  pub form : IsForm line.mapped line.last
  pub faults : AreFaultsOf r.table.definitions line r.notes.faults
  pub counted : IsCountedIn r

-- where that line has a fault
abbrev pub noted_place : ReadSoFar → EntryForm → TableFault → Option FaultPlace
noted_place r form fault = form_place r.table.definitions fault form r.notes

-- ---- an entry that is refused

-- the fault of the table, by the number of the line
abbrev pub told_of : ℕ → EntryFault → TableFault
told_of number faults.Syntax = tables.Syntax number
told_of number faults.Limit = tables.Limit number
told_of number faults.NoSuchName = tables.NoSuchName number
told_of number faults.BadClass = tables.BadClass number
told_of number (faults.SameVariant again) = tables.SameVariant number
told_of number faults.SameSource = tables.SameSource number
told_of number faults.Memory = tables.Memory

-- where its line has it, by what is noted of the line
abbrev pub place_of : Notes → EntryFault → Option FaultPlace
place_of notes faults.Syntax = None
place_of notes faults.Limit = notes.faults.limit
place_of notes faults.NoSuchName = notes.faults.name
place_of notes faults.BadClass = notes.faults.class
place_of notes (faults.SameVariant again) = variant_place notes.begins (Some again)
place_of notes faults.SameSource = source_place notes.begins
place_of notes faults.Memory = None
