use Rattle.valid_labels.proofs.EndLemmas.{EntriesDone}
use Rattle.valid_labels.proofs.cutting.source_ends.Given as goal

-- the ends of the entries so far
abbrev pub invariant-loop-entry : goal.invariant-loop-entry
invariant-loop-entry g l = EntriesDone (g.A.SourcePredicate.asks l.predicate) l.place l.initial.entry-iterator l.entry-iterator l.ends
