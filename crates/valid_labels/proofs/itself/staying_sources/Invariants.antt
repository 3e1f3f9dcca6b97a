use Rattle.std.proofs.Common.{◌≡◌, []}
use Rattle.valid_labels.proofs.StayingLemmas.{staying_from}
use Rattle.valid_labels.proofs.itself.staying_sources.Given as goal

-- the sources of the places so far
abbrev pub invariant-loop-place : goal.invariant-loop-place
invariant-loop-place l = l.draft ≡ record { done = staying_from l.table l.label 0 l.place; begun = [] }
