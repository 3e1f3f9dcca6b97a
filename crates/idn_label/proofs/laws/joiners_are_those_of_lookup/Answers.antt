use Rattle.idn_label.proofs.KitJoiners.{joiners_of_lookup}
use Rattle.idn_label.proofs.laws.joiners_are_those_of_lookup.Goals as goal

pub returns : goal.returns
returns c = joiners_of_lookup
