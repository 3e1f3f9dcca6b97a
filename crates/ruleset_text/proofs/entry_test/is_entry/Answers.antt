use Rattle.std.proofs.Common.{sym, ◌∙◌}
use Rattle.std.proofs.lemmas.Bool.Decides.{not_from_Decides}
use Rattle.ruleset_text.specs.inner.FormTests as tests
use Rattle.ruleset_text.proofs.FormTestLemmas.{entry_told}
use Rattle.ruleset_text.proofs.entry_test.is_entry.Goals as goal

pub returns-clause-yes : goal.returns-clause-yes
returns-clause-yes c = λ e. (entry_told c.args.mapped.now).0 (sym c.is_some_mapped.ensures ∙ e)

pub returns-clause-no : goal.returns-clause-no
returns-clause-no c = λ e.
    not_from_Decides (tests.is_entry c.args.mapped.now) (entry_told c.args.mapped.now) (sym c.is_some_mapped.ensures ∙ e)
