-- What is told of a line of a table, and the fault of the table.
use Rattle.std.specs.Prelude.{ℕ}
use Rattle.variant_table.specs.declared.fault.TableFault.{TableFault}
use Rattle.variant_table.specs.declared.fault.TableFault.TheVariants as tables

-- what is told of a line
pub data LineFault : Type 0 where
  Limit : LineFault
  Syntax : LineFault
  BadClass : LineFault
  SameVariant : LineFault
  SameSource : LineFault
  NoSuchName : LineFault
  SameName : LineFault

-- the fault of a table, by the number of its line and what is told of that line
abbrev pub table_fault : ℕ → LineFault → TableFault
table_fault line Limit = tables.Limit line
table_fault line Syntax = tables.Syntax line
table_fault line BadClass = tables.BadClass line
table_fault line SameVariant = tables.SameVariant line
table_fault line SameSource = tables.SameSource line
table_fault line NoSuchName = tables.NoSuchName line
table_fault line SameName = tables.SameName line
