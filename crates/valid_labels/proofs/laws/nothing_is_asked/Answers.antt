use Rattle.valid_labels.proofs.NothingLemmas.{nothing-is-asked}
use Rattle.valid_labels.proofs.laws.nothing_is_asked.Goals as goal

pub returns : goal.returns
returns c = nothing-is-asked
