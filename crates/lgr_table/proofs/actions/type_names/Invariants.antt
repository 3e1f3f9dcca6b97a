use Rattle.std.proofs.Common.{◌+◌}
use Rattle.lgr_table.proofs.ActionLemmas.{AreNamedBelow}
use Rattle.lgr_table.proofs.actions.type_names.Given as goal

-- the predefined types so far
abbrev pub invariant-loop-number : goal.invariant-loop-number
invariant-loop-number l = AreNamedBelow l.numbers l.definitions l.number l.types

-- the others so far
abbrev pub invariant-loop-place : goal.invariant-loop-place
invariant-loop-place l = AreNamedBelow l.numbers l.definitions (5 + l.place) l.types
