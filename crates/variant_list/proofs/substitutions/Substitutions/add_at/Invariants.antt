use Rattle.variant_list.specs.Substitutions.{substitutions_of_entry}
use Rattle.variant_list.specs.inner.Standing.{stands_by}
use Rattle.variant_list.proofs.TakenSubstitutions.{HasEntries}
use Rattle.variant_list.proofs.substitutions.Substitutions.add_at.Given as goal

-- the substitutions of the entries so far
abbrev pub invariant-loop-entry : goal.invariant-loop-entry
invariant-loop-entry l = HasEntries (stands_by l.self.cuts l.self.table.now l.self.label.now l.place) (substitutions_of_entry l.self.table.now l.self.label.now l.place) l.initial.entry-iterator l.entry-iterator l.fn.draft l.draft
