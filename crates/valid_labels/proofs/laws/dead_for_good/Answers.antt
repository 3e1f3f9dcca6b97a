use Rattle.valid_labels.proofs.DeadPrefixLemmas.{dead-for-good}
use Rattle.valid_labels.proofs.laws.dead_for_good.Goals as goal

pub returns : goal.returns
returns c = dead-for-good
