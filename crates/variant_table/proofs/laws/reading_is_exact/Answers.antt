use Rattle.variant_table.proofs.FaultlessLemmas.{read_text, text_read}
use Rattle.variant_table.proofs.TextLemmas.{read_fault, fault_read}
use Rattle.variant_table.proofs.laws.reading_is_exact.Goals as goal

pub returns-clause-table : goal.returns-clause-table
returns-clause-table c = λ properties notation text table. (read_text properties notation text table, text_read properties notation text table)

pub returns-clause-fault : goal.returns-clause-fault
returns-clause-fault c = λ properties notation text line kind. (read_fault properties notation text line kind, fault_read properties notation text line kind)
