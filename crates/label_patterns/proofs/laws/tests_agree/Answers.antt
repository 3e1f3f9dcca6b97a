use Rattle.label_patterns.proofs.TestLemmas.{tests-agree}
use Rattle.label_patterns.proofs.laws.tests_agree.Goals as goal

pub returns : goal.returns
returns c = tests-agree
