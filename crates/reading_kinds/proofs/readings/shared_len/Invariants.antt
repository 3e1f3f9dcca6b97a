use Rattle.std.proofs.Common.{◌≡◌, take}
use Rattle.reading_kinds.proofs.readings.shared_len.Given as goal

abbrev pub invariant-loop-index : goal.invariant-loop-index
invariant-loop-index l = take l.index l.before ≡ take l.index l.label
