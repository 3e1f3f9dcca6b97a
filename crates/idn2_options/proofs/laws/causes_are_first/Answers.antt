use Rattle.idn2_options.proofs.FirstLemmas.{first-wrong, used-twice}
use Rattle.idn2_options.proofs.laws.causes_are_first.Goals as goal

pub returns : goal.returns
returns c = record { first = first-wrong; twice = used-twice }
