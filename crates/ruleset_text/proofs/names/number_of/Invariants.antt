use Rattle.std.proofs.Common.{◌≡◌, ◌+◌, drop}
use Rattle.ruleset_text.specs.Names.{number_of}
use Rattle.ruleset_text.proofs.names.number_of.Given as goal

-- the name is none of those so far
abbrev pub invariant-loop-number : goal.invariant-loop-number
invariant-loop-number l = number_of (drop l.number l.names) l.bytes + l.number ≡ number_of l.names l.bytes
