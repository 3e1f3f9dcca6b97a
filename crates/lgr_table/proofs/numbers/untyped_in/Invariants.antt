use Rattle.std.proofs.Common.{◌+◌, None}
use Rattle.lgr_table.proofs.NumberTypeLemmas.{NoneBelow}
use Rattle.lgr_table.proofs.numbers.untyped_in.Given as goal

-- no type so far
abbrev pub invariant-loop-place : goal.invariant-loop-place
invariant-loop-place l = NoneBelow l.types None (5 + l.place)
