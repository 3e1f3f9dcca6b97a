use Rattle.variant_table.proofs.DifferenceLemmas.{differences_of_are_differences}
use Rattle.variant_table.proofs.laws.differences_of_are_the_differences.Goals as goal

pub returns : goal.returns
returns c = differences_of_are_differences
