use Rattle.valid_labels.proofs.ItselfLemmas.{told-themselves}
use Rattle.valid_labels.proofs.laws.labels_are_told_themselves.Goals as goal

pub returns : goal.returns
returns c = told-themselves
