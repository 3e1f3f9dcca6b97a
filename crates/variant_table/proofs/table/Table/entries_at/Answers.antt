use Rattle.std.proofs.Common.{sym, subst, ap, ◌∙◌}
use Rattle.variant_table.specs.Places.{AreEntriesAt, entries_at}
use Rattle.variant_table.specs.WellFormed.{IsWellFormed}
use Rattle.variant_table.proofs.BeginningLemmas.{entries_are_at}
use Rattle.variant_table.proofs.table.Table.entries_at.Goals as goal

pub returns-clause-entries : goal.returns-clause-entries
returns-clause-entries c =
    subst (AreEntriesAt c.args.self.now.entries c.args.label.now c.args.place)
    (sym (c.new.ensures ∙ ap (λ t. entries_at t.entries c.args.label.now c.args.place) c.self.view_is))
    (entries_are_at c.args.self.now.entries c.args.label.now c.args.place (subst (λ t. IsWellFormed t.entries) c.self.view_is c.self.invariant.well_formed))
