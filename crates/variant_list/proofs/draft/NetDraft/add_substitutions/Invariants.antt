use Rattle.std.proofs.Common.{take}
use Rattle.reading_kinds.specs.Readings.{substitutions_at}
use Rattle.variant_list.specs.inner.Layouts.{HasTaken}
use Rattle.variant_list.proofs.draft.NetDraft.add_substitutions.Given as goal

-- the substitutions so far
abbrev pub invariant-loop-number : goal.invariant-loop-number
invariant-loop-number l = HasTaken l.fn.self (take l.number (substitutions_at l.substitutions l.place)) l.self
