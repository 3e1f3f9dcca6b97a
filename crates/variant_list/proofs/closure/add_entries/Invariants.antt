use Rattle.std.proofs.Common.{true}
use Rattle.variant_list.specs.inner.NearSubstitutions.{near_source}
use Rattle.variant_list.proofs.TakenSubstitutions.{HasEntries}
use Rattle.variant_list.proofs.closure.add_entries.Given as goal

-- the entries so far
abbrev pub invariant-loop-entry : goal.invariant-loop-entry
invariant-loop-entry l = HasEntries (λ e. true) near_source l.initial.entry-iterator l.entry-iterator l.fn.draft l.draft
