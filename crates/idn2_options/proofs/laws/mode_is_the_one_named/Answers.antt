use Rattle.idn2_options.proofs.ModeLemmas.{mode_of-named, mode_of-none, not_allowed}
use Rattle.idn2_options.proofs.laws.mode_is_the_one_named.Goals as goal

pub returns : goal.returns
returns c = record { named = mode_of-named; none_named = mode_of-none; two_named = not_allowed }
