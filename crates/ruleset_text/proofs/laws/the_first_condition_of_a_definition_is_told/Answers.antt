use Rattle.ruleset_text.proofs.DefinitionOrderLemmas.{wrong_is, wrong_from}
use Rattle.ruleset_text.proofs.laws.the_first_condition_of_a_definition_is_told.Goals as goal

pub returns : goal.returns
returns c limit d keyword words fault = (wrong_is limit d keyword words fault, wrong_from limit d keyword words fault)
