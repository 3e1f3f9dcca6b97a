use Rattle.variant_table.proofs.FormLemmas.{form_read, read_form}
use Rattle.variant_table.proofs.laws.reading_a_line_is_exact.Goals as goal

pub returns : goal.returns
returns c = λ version line form. (read_form version line form, form_read version line form)
