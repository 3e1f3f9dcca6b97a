use Rattle.label_patterns.proofs.ContextLemmas.{stays-before}
use Rattle.label_patterns.proofs.laws.before_stays.Goals as goal

pub returns : goal.returns
returns c = stays-before
