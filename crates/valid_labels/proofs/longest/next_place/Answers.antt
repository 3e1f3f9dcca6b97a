use Rattle.std.specs.Prelude.{MatchOption}
use Rattle.std.proofs.Common.{ℕ, ◌+◌, length, refl, sym, ap, subst, ◌∙◌}
use Rattle.valid_labels.specs.Eligible.{LongestLeads}
use Rattle.valid_labels.proofs.EligibleLemmas.{leads-on, none-leads, some-leads, opposite}
use Rattle.valid_labels.proofs.longest.next_place.Goals as goal

pub returns-then-has-2-clause-next : goal.returns-then-has-2-clause-next
returns-then-has-2-clause-next c =
    ((c.requires.steps c.args.place (c.has.ensures.0 c.if-has.true)).1 (c.args.place + 1)).1 (refl, c.has-then-has.ensures.0 c.if-has-2.true)

pub returns-else-has-2-clause-next : goal.returns-else-has-2-clause-next
returns-else-has-2-clause-next c j h =
    let leads = ((c.requires.steps c.args.place (c.has.ensures.0 c.if-has.true)).1 j).0 h in
    opposite c.has-then-has.result (c.has-then-has.ensures.1 leads.1) c.if-has-2.false

pub returns-clause-next : goal.returns-clause-next
returns-clause-next c =
    let table = c.args.table.now in
    let label = c.args.label.now in
    let place = c.args.place in
    subst (LongestLeads table label place) (ap (λ s. place + length s) (sym c.source.ensures))
    (some-leads table label c.len-entries.ensures.well_formed place c.in_ok-entry.entry (sym c.longest_at.ensures ∙ c.in_ok-entry.was))

pub returns-clause-on : goal.returns-clause-on
returns-clause-on c =
    let table = c.args.table.now in
    let label = c.args.label.now in
    let place = c.args.place in
    let formed = c.len-entries.ensures.well_formed in
    leads-on table label formed place (place + length c.source.result.now)
    (subst (LongestLeads table label place) (ap (λ s. place + length s) (sym c.source.ensures))
    (some-leads table label formed place c.in_ok-entry.entry (sym c.longest_at.ensures ∙ c.in_ok-entry.was)))

pub returns-in_err-entry-clause-next : goal.returns-in_err-entry-clause-next
returns-in_err-entry-clause-next c =
    let table = c.args.table.now in
    let label = c.args.label.now in
    let place = c.args.place in
    subst (λ o. MatchOption o ((j : ℕ) → LongestLeads table label place j → ⊥) (LongestLeads table label place)) (sym c.from_residual.ensures)
    (none-leads table label c.len-entries.ensures.well_formed place (sym c.longest_at.ensures ∙ c.in_err-entry.was))
