use Rattle.ruleset_text.proofs.PatternLimitLemmas.{each_marked, some_past}
use Rattle.ruleset_text.proofs.laws.tokens_past_limits_are_marked.Goals as goal

pub returns-clause-each : goal.returns-clause-each
returns-clause-each c = λ left p. each_marked p 0 left

pub returns-clause-some : goal.returns-clause-some
returns-clause-some c = some_past
