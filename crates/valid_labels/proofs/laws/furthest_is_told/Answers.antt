use Rattle.valid_labels.proofs.SourceLemmas.{furthest-told}
use Rattle.valid_labels.proofs.laws.furthest_is_told.Goals as goal

pub returns : goal.returns
returns c = furthest-told
