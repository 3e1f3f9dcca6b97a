use Rattle.std.proofs.Common.{◌≡◌, []}
use Rattle.variant_list.specs.inner.NearSubstitutions.{near_from}
use Rattle.variant_list.proofs.closure.near_substitutions_of.Given as goal

-- the substitutions of the places so far
abbrev pub invariant-loop-place : goal.invariant-loop-place
invariant-loop-place l = l.draft ≡ record { done = near_from l.table l.reversed l.label 0 l.place; begun = [] }
