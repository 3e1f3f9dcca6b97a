use Rattle.lgr_text.proofs.DocumentLemmas.{one-ruleset}
use Rattle.lgr_text.proofs.laws.a_document_says_one_ruleset.Goals as goal

pub returns : goal.returns
returns c = λ tokens this that says other. one-ruleset tokens this that says other
