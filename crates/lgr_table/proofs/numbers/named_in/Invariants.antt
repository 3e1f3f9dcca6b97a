use Rattle.std.proofs.Common.{◌+◌, Some}
use Rattle.lgr_table.proofs.NumberTypeLemmas.{NoneBelow}
use Rattle.lgr_table.proofs.numbers.named_in.Given as goal

-- no predefined type so far
abbrev pub invariant-loop-number : goal.invariant-loop-number
invariant-loop-number l = NoneBelow l.types (Some l.name) l.number

-- no type so far
abbrev pub invariant-loop-place : goal.invariant-loop-place
invariant-loop-place l = NoneBelow l.types (Some l.name) (5 + l.place)
