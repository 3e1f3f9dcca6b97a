use Rattle.std.proofs.Common.{cond, ◌≡◌, ◌++◌, ◌∷◌, [], List, ℕ, length, true, ap, sym, subst, ◌∙◌, Ok, Err}
use Rattle.std.specs.Prelude.{is_ok}
use Rattle.std.specs.List.{insert}
use Rattle.variant_table.specs.Faults.{SameSource}
use Rattle.variant_table.specs.declared.ordered_entries.SourcePlace.TheVariants.{Found, Absent}
use Rattle.variant_table.specs.Conditions.{has_source_in}
use Rattle.variant_table.specs.Entries.{Entry, entry_from}
use Rattle.variant_table.specs.inner.Order.{IsPlaceFor, IsOrderOf, IsGapFor}
use Rattle.variant_table.specs.inner.ReadingSteps.{with_new_source}
use Rattle.variant_table.proofs.EntryLemmas.{source-first}
use Rattle.variant_table.proofs.OrderLemmas.{known-at, new-gap, order-pushed}
use Rattle.variant_table.proofs.ordered_entries.OrderedEntries.push.Goals as goal

pub returns-in_default-clause-read : goal.returns-in_default-clause-read
returns-in_default-clause-read c =
    let table : List Entry = c.self.inside.entries in
    let order : List ℕ = c.self.inside.order.items in
    let e : Entry = entry_from c.args.sequences.now in
    let found = subst (λ o. IsPlaceFor table o c.get.result.now (Found c.in_default.field-0)) c.deref.ensures.value c.in_default.ensures in
    let known : has_source_in table e ≡ true = known-at table order c.in_default.field-0 e c.self.invariant found.0 (found.1 ∙ sym (source-first c.args.sequences.now c.get.result.now c.get.ensures)) in
    ap (λ t. with_new_source t e) (sym c.self.view_is) ∙ ap (λ b. cond b (Err SameSource) (Ok (table ++ e ∷ []))) known

pub invariant_of-self-2 : goal.invariant_of-self-2
invariant_of-self-2 c =
    let table : List Entry = c.self.inside.entries in
    let order : List ℕ = c.self.inside.order.items in
    let place : ℕ = c.in-Absent.place in
    let e : Entry = entry_from c.args.sequences.now in
    let gap : IsGapFor table order e.source place =
    subst (λ s. IsGapFor table order s place) (sym (source-first c.args.sequences.now c.get.result.now c.get.ensures))
    (subst (λ o. IsPlaceFor table o c.get.result.now (Absent place)) c.deref.ensures.value c.in-Absent.ensures) in
    let inserted : c.insert.new.self.items ≡ insert order place (length table) =
    c.insert.ensures.items ∙ ap (λ r. cond (is_ok r) (insert c.reserve.new.self.items place c.len-entry.result) c.reserve.new.self.items) c.unwrap.ensures
    ∙ ap (λ xs. insert xs place c.len-entry.result) c.in_ok-reserve.ensures.items ∙ ap (insert order place) c.len-entry.ensures in
    subst (λ t. IsOrderOf t c.insert.new.self.items) (sym c.in_ok-push.ensures.ok)
    (subst (IsOrderOf (table ++ e ∷ [])) (sym inserted) (order-pushed table order e place c.self.invariant gap))

pub returns-clause-read : goal.returns-clause-read
returns-clause-read c =
    let table : List Entry = c.self.inside.entries in
    let order : List ℕ = c.self.inside.order.items in
    let place : ℕ = c.in-Absent.place in
    let e : Entry = entry_from c.args.sequences.now in
    let gap : IsGapFor table order e.source place =
    subst (λ s. IsGapFor table order s place) (sym (source-first c.args.sequences.now c.get.result.now c.get.ensures))
    (subst (λ o. IsPlaceFor table o c.get.result.now (Absent place)) c.deref.ensures.value c.in-Absent.ensures) in
    ap (λ t. with_new_source t e) (sym c.self.view_is) ∙ ap (λ b. cond b (Err SameSource) (Ok (table ++ e ∷ []))) (new-gap table order place e c.self.invariant gap)
    ∙ ap (λ t. Ok t) (sym c.in_ok-push.ensures.ok)
