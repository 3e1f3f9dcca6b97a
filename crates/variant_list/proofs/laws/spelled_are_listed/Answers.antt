use Rattle.variant_list.proofs.SpelledByLemmas.{spelled-Spells}
use Rattle.variant_list.proofs.laws.spelled_are_listed.Goals as goal

pub returns : goal.returns
returns c = spelled-Spells
