-- What each step of reading leaves: the table so far, or the fault of its line.
use Rattle.std.specs.Prelude.{◌≡◌, ◌⊎◌, ℕ, Bool, true, false, List, [], ◌∷◌, ◌++◌, map, Result, Ok, Err, if◌then◌else◌}
use Rattle.std.specs.List.{range_with_len}
use Rattle.ruleset_text.specs.declared.fault.DefinitionFault.{DefinitionFault}
use Rattle.ruleset_text.specs.declared.fault.DefinitionFault.TheVariants as definitions
use Rattle.variant_table.specs.declared.fault.LineRefusal.{LineRefusal}
use Rattle.variant_table.specs.declared.fault.TableFault.{TableFault}
use Rattle.variant_table.specs.declared.fault.TableFault.TheVariants as tables
use Rattle.variant_table.specs.declared.fault.TableRefusal.{TableRefusal}
use Rattle.variant_table.specs.Faults.{LineFault, Limit, Syntax, BadClass, SameVariant, SameSource, NoSuchName}
use Rattle.variant_table.specs.Faults.{SameName, table_fault}
use Rattle.variant_table.specs.declared.table_draft.TableDraft.{TableDraft}
use Rattle.variant_table.specs.inner.Drafts.{draft_table}
use Rattle.variant_table.specs.Entries.{Variant, Entry, TableValue}
use Rattle.variant_table.specs.Ranges.{entry_in_range}
use Rattle.variant_table.specs.Conditions.{has_source_in}
use Rattle.variant_table.specs.Reading.{◌>>=◌}

-- a call fails with the fault of the line of this number, unless memory was refused
abbrev pub Fails : {Y : Type 0} → ℕ → TableFault → Result Y LineFault → Type 0
Fails number tables.Memory read = Unit {0}
Fails number (tables.Limit line) read = (line ≡ number) × (read ≡ Err Limit)
Fails number (tables.Syntax line) read = (line ≡ number) × (read ≡ Err Syntax)
Fails number (tables.BadClass line) read = (line ≡ number) × (read ≡ Err BadClass)
Fails number (tables.SameVariant line) read = (line ≡ number) × (read ≡ Err SameVariant)
Fails number (tables.SameSource line) read = (line ≡ number) × (read ≡ Err SameSource)
Fails number (tables.NoSuchName line) read = (line ≡ number) × (read ≡ Err NoSuchName)
Fails number (tables.SameName line) read = (line ≡ number) × (read ≡ Err SameName)

-- if a call succeeds, y is what reading the line of this number gives; if it fails, it is with the fault of that line
abbrev pub Leaves : {X Y : Type 0} → ℕ → Result X LineRefusal → Y → Result Y LineFault → Type 0
Leaves number (Ok x) y read = read ≡ Ok y
Leaves number (Err refusal) y read = Fails number refusal.fault read

-- the table with an entry, whose source is to be new
abbrev pub with_new_source : List Entry → Entry → Result (List Entry) LineFault
with_new_source table e = if has_source_in table e then Err SameSource else Ok (table ++ e ∷ [])

-- the table that a call leaves, by whether all sources that it was to add are new
abbrev pub if_new : Bool → List Entry → Result (List Entry) LineFault
if_new true table = Ok table
if_new false table = Err SameSource

-- the table with entries, one after another, whose sources are to be new
abbrev pub with_new_sources : List Entry → List Entry → Result (List Entry) LineFault
with_new_sources table [] = Ok table
with_new_sources table (e ∷ entries) = with_new_source table e >>= λ t. with_new_sources t entries

-- the table with the entries of so many code points, from the first on, with what stands at this one
abbrev pub with_points_of : List Entry → Variant → ℕ → ℕ → Result (List Entry) LineFault
with_points_of table v first count = with_new_sources table (map (entry_in_range v) (range_with_len first count))

-- the fault that reading gives, unless memory was refused
abbrev pub FailsIn : {Y : Type 0} → TableFault → Result Y (ℕ × LineFault) → Type 0
FailsIn {Y} fault read =
    (fault ≡ tables.Memory)
    ⊎ ((line : ℕ) × (kind : LineFault) × (fault ≡ table_fault line kind) × (read ≡ Err (line, kind)))

-- the answer is that of the function, unless memory was refused
abbrev pub Reads : Result TableDraft TableRefusal → Result TableValue (ℕ × LineFault) → Type 0
Reads (Ok draft) read = read ≡ Ok (draft_table draft)
Reads (Err refusal) read = FailsIn refusal.fault read

-- the fault of a table, by the number of its line and the fault of the definition on it
abbrev pub told_in : ℕ → DefinitionFault → TableFault
told_in number definitions.Syntax = tables.Syntax number
told_in number definitions.Limit = tables.Limit number
told_in number definitions.NoSuchName = tables.NoSuchName number
told_in number definitions.BadClass = tables.BadClass number
told_in number definitions.SameName = tables.SameName number
told_in number definitions.Memory = tables.Memory
