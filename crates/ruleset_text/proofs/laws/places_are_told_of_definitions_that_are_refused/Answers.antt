use Rattle.ruleset_text.proofs.DefineFaultLemmas.{faults_told}
use Rattle.ruleset_text.proofs.laws.places_are_told_of_definitions_that_are_refused.Goals as goal

pub returns : goal.returns
returns c = faults_told
