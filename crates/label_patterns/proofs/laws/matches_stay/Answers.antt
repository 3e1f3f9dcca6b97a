use Rattle.label_patterns.proofs.LawLemmas.{stay}
use Rattle.label_patterns.proofs.laws.matches_stay.Goals as goal

pub returns : goal.returns
returns c = stay
