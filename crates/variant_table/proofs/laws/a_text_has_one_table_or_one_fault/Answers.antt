use Rattle.variant_table.proofs.TextLemmas.{text_decided, not_both, one_table, one_fault}
use Rattle.variant_table.proofs.laws.a_text_has_one_table_or_one_fault.Goals as goal

pub returns-clause-some : goal.returns-clause-some
returns-clause-some c = text_decided

pub returns-clause-not_both : goal.returns-clause-not_both
returns-clause-not_both c = not_both

pub returns-clause-one_table : goal.returns-clause-one_table
returns-clause-one_table c = one_table

pub returns-clause-one_fault : goal.returns-clause-one_fault
returns-clause-one_fault c = one_fault
