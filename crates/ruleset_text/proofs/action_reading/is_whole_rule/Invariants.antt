use Rattle.std.proofs.Common.{◌≡◌}
use Rattle.ruleset_text.proofs.WholeRuleLemmas.{has_whole}
use Rattle.ruleset_text.proofs.action_reading.is_whole_rule.Given as goal

-- no rule before this number is such a one
abbrev pub invariant-loop-number : goal.invariant-loop-number
invariant-loop-number l = has_whole l.names l.rules l.number l.name ≡ has_whole l.names l.rules 0 l.name
