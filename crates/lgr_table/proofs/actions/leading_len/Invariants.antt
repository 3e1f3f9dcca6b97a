use Rattle.std.proofs.Common.{map, take}
use Rattle.lgr_text.specs.Records.{action}
use Rattle.lgr_table.proofs.DemandLemmas.{AllInvalid}
use Rattle.lgr_table.proofs.actions.leading_len.Given as goal

-- those so far
abbrev pub invariant-loop-number : goal.invariant-loop-number
invariant-loop-number l = AllInvalid (map action (take l.number l.actions))
