use Rattle.valid_labels.proofs.NothingLemmas.{admitted-valid}
use Rattle.valid_labels.proofs.laws.admitted_are_valid.Goals as goal

pub returns : goal.returns
returns c = admitted-valid
