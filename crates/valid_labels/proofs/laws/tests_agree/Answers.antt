use Rattle.valid_labels.proofs.TestLemmas.{tests-agree}
use Rattle.valid_labels.proofs.laws.tests_agree.Goals as goal

pub returns : goal.returns
returns c = tests-agree
