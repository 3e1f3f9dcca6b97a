use Rattle.valid_labels.proofs.EligibleLemmas.{longest-first}
use Rattle.valid_labels.proofs.laws.longest_first.Goals as goal

pub returns : goal.returns
returns c = longest-first
