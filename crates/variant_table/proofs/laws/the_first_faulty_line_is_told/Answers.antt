use Rattle.variant_table.proofs.FaultyLineLemmas.{first_faulty_told}
use Rattle.variant_table.proofs.laws.the_first_faulty_line_is_told.Goals as goal

pub returns : goal.returns
returns c = first_faulty_told
