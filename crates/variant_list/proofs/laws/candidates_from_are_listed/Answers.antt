use Rattle.variant_list.proofs.FromLemmas.{candidates_from-IsListOf}
use Rattle.variant_list.proofs.laws.candidates_from_are_listed.Goals as goal

pub returns : goal.returns
returns c = candidates_from-IsListOf
