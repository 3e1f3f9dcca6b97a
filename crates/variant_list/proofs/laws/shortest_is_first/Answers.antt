use Rattle.variant_list.proofs.TestedLaws.{shortest_is_first}
use Rattle.variant_list.proofs.laws.shortest_is_first.Goals as goal

pub returns : goal.returns
returns c = shortest_is_first
