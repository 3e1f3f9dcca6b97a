-- What adding an entry makes of a table, where it isn't read from a line.
use Rattle.std.specs.Prelude.{◌≡◌, Some, None, List, Result, Ok, Err}
use Rattle.ruleset_text.specs.Entries.{Mapped, EntryForm}
use Rattle.ruleset_text.specs.EntryText.{IsForm}
use Rattle.variant_table.specs.declared.fault.EntryFault.{EntryFault}
use Rattle.variant_table.specs.declared.fault.EntryFault.TheVariants as fault
use Rattle.variant_table.specs.Conditions.{given_again}
use Rattle.variant_table.specs.Entries.{TableValue}
use Rattle.variant_table.specs.Faults.{LineFault, Limit, BadClass, SameVariant, SameSource, NoSuchName}
use Rattle.variant_table.specs.Forms.{entry_of}
use Rattle.variant_table.specs.Reading.{with_form_of}

-- a source and its variants
abbrev pub form_of : List Mapped → EntryForm
form_of mapped = record { mapped = mapped; last = None }

-- they have the form of an entry, and this is told of them
abbrev pub IsTold : TableValue → List Mapped → LineFault → Type 0
IsTold t mapped told = IsForm mapped None × (with_form_of t (form_of mapped) ≡ Err told)

-- the entry was refused with this fault: what is told of a line with it; and which variant is given again
abbrev pub RefusedEntry : TableValue → List Mapped → EntryFault → Type 0
RefusedEntry t mapped fault.Syntax = IsForm mapped None → ⊥
RefusedEntry t mapped fault.Limit = IsTold t mapped Limit
RefusedEntry t mapped fault.NoSuchName = IsTold t mapped NoSuchName
RefusedEntry t mapped fault.BadClass = IsTold t mapped BadClass
RefusedEntry t mapped (fault.SameVariant number) =
    IsTold t mapped SameVariant × (given_again (entry_of t.definitions mapped) ≡ Some number)
RefusedEntry t mapped fault.SameSource = IsTold t mapped SameSource
RefusedEntry t mapped fault.Memory = Unit {0}

-- it was added to the table t, which is u with it; or it was refused
abbrev pub AddsEntry : {X : Type 0} → TableValue → List Mapped → Result X EntryFault → TableValue → Type 0
AddsEntry t mapped (Ok done) u = IsForm mapped None × (with_form_of t (form_of mapped) ≡ Ok u)
AddsEntry t mapped (Err f) u = RefusedEntry t mapped f
