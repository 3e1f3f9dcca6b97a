use Rattle.label_patterns.proofs.BarringLemmas.{barred-for-good}
use Rattle.label_patterns.proofs.laws.barred_for_good.Goals as goal

pub returns : goal.returns
returns c = barred-for-good
