use Rattle.valid_labels.proofs.EligibleLemmas.{one-cut}
use Rattle.valid_labels.proofs.laws.one_cut.Goals as goal

pub returns : goal.returns
returns c = one-cut
