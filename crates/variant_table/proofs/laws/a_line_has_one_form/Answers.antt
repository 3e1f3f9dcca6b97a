use Rattle.variant_table.proofs.FormLemmas.{one_form_of, one_line}
use Rattle.variant_table.proofs.laws.a_line_has_one_form.Goals as goal

pub returns-clause-form : goal.returns-clause-form
returns-clause-form c = one_form_of

pub returns-clause-entries : goal.returns-clause-entries
returns-clause-entries c = one_line
