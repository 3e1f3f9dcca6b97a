use Rattle.variant_table.proofs.RisingLemmas.{gaps_of_are_gaps}
use Rattle.variant_table.proofs.laws.gaps_of_are_the_gaps.Goals as goal

pub returns : goal.returns
returns c = gaps_of_are_gaps
