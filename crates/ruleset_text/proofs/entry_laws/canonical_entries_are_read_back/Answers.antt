use Rattle.ruleset_text.proofs.EntryBackLemmas.{canonical_entry, form_back}
use Rattle.ruleset_text.proofs.entry_laws.canonical_entries_are_read_back.Goals as goal

pub returns-clause-spelled : goal.returns-clause-spelled
returns-clause-spelled c form is = (is, canonical_entry form.mapped form.last is)

pub returns-clause-read : goal.returns-clause-read
returns-clause-read c = form_back
