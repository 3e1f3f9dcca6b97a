use Rattle.label_patterns.proofs.BarringLemmas.{barring-stays}
use Rattle.label_patterns.proofs.laws.barring_stays.Goals as goal

pub returns : goal.returns
returns c = barring-stays
