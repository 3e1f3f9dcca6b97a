use Rattle.std.proofs.Common.{◌≡◌, ◌-◌}
use Rattle.reading_kinds.specs.Drafts.{with_substitutions}
use Rattle.variant_list.specs.Substitutions.{may_replace}
use Rattle.variant_list.proofs.TakenSubstitutions.{substitutions_upto}
use Rattle.variant_list.proofs.substitutions.Substitutions.add_entry.Given as goal

-- the source and the variants so far
abbrev pub invariant-loop-number : goal.invariant-loop-number
invariant-loop-number l = l.draft ≡ with_substitutions l.fn.draft (substitutions_upto (may_replace l.self.table.now l.self.label.now l.place l.entry) l.entry (l.number - 1))
