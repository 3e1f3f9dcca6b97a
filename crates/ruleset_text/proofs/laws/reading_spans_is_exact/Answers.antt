use Rattle.ruleset_text.proofs.SpanExactLemmas.{reading_spans_is_exact, one_set}
use Rattle.ruleset_text.proofs.laws.reading_spans_is_exact.Goals as goal

pub returns-clause-exact : goal.returns-clause-exact
returns-clause-exact c words spans = reading_spans_is_exact words spans

pub returns-clause-one : goal.returns-clause-one
returns-clause-one c words spans others = one_set words spans others
