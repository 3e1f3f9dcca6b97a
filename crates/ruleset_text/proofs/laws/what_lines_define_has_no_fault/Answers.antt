use Rattle.ruleset_text.proofs.AddedLemmas.{nothing_counted}
use Rattle.ruleset_text.proofs.DefinedLemmas.{defined_grows}
use Rattle.ruleset_text.proofs.laws.what_lines_define_has_no_fault.Goals as goal

pub returns-clause-nothing : goal.returns-clause-nothing
returns-clause-nothing c properties = (nothing_counted properties).without_fault

pub returns-clause-more : goal.returns-clause-more
returns-clause-more c d e limit keyword words = λ are h. (defined_grows limit d e keyword words are h).without_fault
