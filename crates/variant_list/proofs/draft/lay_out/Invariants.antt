use Rattle.std.proofs.Common.{drop}
use Rattle.variant_list.specs.inner.Layouts.{IsLaid}
use Rattle.variant_list.proofs.draft.lay_out.Given as goal

-- the substitutions from this place on
abbrev pub invariant-loop-place : goal.invariant-loop-place
invariant-loop-place l = IsLaid (drop l.place l.substitutions) l.draft
