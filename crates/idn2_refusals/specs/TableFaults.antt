-- Why the text of a table is not read, and what is reported of it.
use Rattle.std.specs.Prelude.{ℕ, Option, Some, None}
use Rattle.idn_text.specs.declared.refusal.Refusal.{Refusal}
use Rattle.variant_table.specs.declared.fault.TableFault.{TableFault}
use Rattle.idn_text.specs.declared.refusal.Refusal.TheVariants as refusals
use Rattle.variant_table.specs.declared.fault.TableFault.TheVariants as tables

-- what is reported of a table that is not read; nothing where memory was refused
abbrev pub told_of : TableFault → Option (ℕ × Refusal)
told_of (tables.Syntax line) = Some (line, refusals.Syntax)
told_of (tables.SameSource line) = Some (line, refusals.SameSource)
told_of (tables.SameVariant line) = Some (line, refusals.SameVariant)
told_of (tables.BadClass line) = Some (line, refusals.BadClass)
told_of (tables.Limit line) = Some (line, refusals.Limit)
told_of (tables.NoSuchName line) = Some (line, refusals.NoSuchName)
told_of (tables.SameName line) = Some (line, refusals.SameName)
told_of tables.Memory = None
