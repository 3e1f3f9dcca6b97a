use Rattle.ruleset_text.proofs.EntryExactLemmas as lemmas
use Rattle.ruleset_text.proofs.EntryStopLemmas.{the_entry, the_stop}
use Rattle.ruleset_text.proofs.entry_laws.reading_an_entry_is_exact.Goals as goal

pub returns-clause-exact : goal.returns-clause-exact
returns-clause-exact c = lemmas.reading_an_entry_is_exact

pub returns-clause-one : goal.returns-clause-one
returns-clause-one c = lemmas.one_form

pub returns-clause-form : goal.returns-clause-form
returns-clause-form c = the_entry

pub returns-clause-stop : goal.returns-clause-stop
returns-clause-stop c = the_stop
