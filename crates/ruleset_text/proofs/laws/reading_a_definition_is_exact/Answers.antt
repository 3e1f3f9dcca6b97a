use Rattle.ruleset_text.proofs.DefinitionOrderLemmas.{definition_read, definition_spelled, one_definition}
use Rattle.ruleset_text.proofs.laws.reading_a_definition_is_exact.Goals as goal

pub returns-clause-exact : goal.returns-clause-exact
returns-clause-exact c names keyword words x = (definition_spelled names keyword words x, definition_read names keyword words x)

pub returns-clause-one : goal.returns-clause-one
returns-clause-one c names keyword words x y = one_definition names keyword words x y
