use Rattle.ruleset_text.proofs.DefinitionStopLemmas.{the_definition, the_stop}
use Rattle.ruleset_text.proofs.laws.a_line_stops_where_no_definition_goes_on.Goals as goal

pub returns-clause-read : goal.returns-clause-read
returns-clause-read c = the_definition

pub returns-clause-place : goal.returns-clause-place
returns-clause-place c = the_stop
