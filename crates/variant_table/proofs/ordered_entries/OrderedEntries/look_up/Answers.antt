use Rattle.std.proofs.Common.{arith, ◌≡◌, ◌+◌, ap, sym, subst, ◌∙◌, ℕ, List, get_or}
use Rattle.std.proofs.lemmas.Bool.{false_from_ne_true}
use Rattle.std.specs.Prelude.{slice_get}
use Rattle.std.proofs.lemmas.List.{get_or_default}
use Rattle.variant_table.specs.Entries.{Entry}
use Rattle.variant_table.specs.inner.Order.{IsPlaceFor, HasNoLonger, begins_at}
use Rattle.variant_table.specs.declared.ordered_entries.SourcePlace.TheVariants.{Found, Absent}
use Rattle.variant_table.specs.Places.{entry_with}
use Rattle.variant_table.proofs.OrderLemmas.{number_below, entry_with-at, entry_with-gap, no_longer-found, no_longer-gap, longer-found, longer-gap}
use Rattle.variant_table.proofs.ordered_entries.OrderedEntries.look_up.Goals as goal

pub get-requires : goal.get-requires
get-requires c =
    let table : List Entry = c.self.inside.entries in
    let order : List ℕ = c.self.inside.order.items in
    let found = subst (λ o. IsPlaceFor table o c.args.source.now (Found c.in-Found.place)) c.deref.ensures.value c.in-Found.ensures in
    omega (arith, number_below table order c.self.invariant c.in-Found.place found.0, c.index.ensures, get_or_default order c.in-Found.place c.index.result.now 0 found.0)

pub returns-in-Found-clause-entry : goal.returns-in-Found-clause-entry
returns-in-Found-clause-entry c =
    let table : List Entry = c.self.inside.entries in
    let order : List ℕ = c.self.inside.order.items in
    let found = subst (λ o. IsPlaceFor table o c.args.source.now (Found c.in-Found.place)) c.deref.ensures.value c.in-Found.ensures in
    let number : c.index.result.now ≡ get_or order c.in-Found.place 0 = c.index.ensures ∙ get_or_default order c.in-Found.place c.index.result.now 0 found.0 in
    sym (entry_with-at table order c.self.invariant c.in-Found.place c.args.source.now c.get.result found.0 found.1 (ap (slice_get table) (sym number) ∙ c.get.ensures))
    ∙ ap (λ t. entry_with t c.args.source.now) c.self.view_is

pub returns-in-Found-clause-longer : goal.returns-in-Found-clause-longer
returns-in-Found-clause-longer c =
    let table : List Entry = c.self.inside.entries in
    let order : List ℕ = c.self.inside.order.items in
    let found = subst (λ o. IsPlaceFor table o c.args.source.now (Found c.in-Found.place)) c.deref.ensures.value c.in-Found.ensures in
    let last : c.begins_at.result ≡ begins_at table order (c.in-Found.place + 1) c.args.source.now =
    c.begins_at.ensures ∙ ap (λ o. begins_at table o (c.in-Found.place + 1) c.args.source.now) c.deref-in-Found.ensures.value in (
      λ none. subst (λ t. HasNoLonger t c.args.source.now) c.self.view_is (no_longer-found table order c.in-Found.place c.args.source.now c.self.invariant found.0 found.1 (sym last ∙ none)),
      λ none.
          false_from_ne_true c.begins_at.result
          (λ some. longer-found table order c.in-Found.place c.args.source.now c.self.invariant found.1 (sym last ∙ some) (subst (λ t. HasNoLonger t c.args.source.now) (sym c.self.view_is) none)),
    )

pub returns-in-Absent-clause-entry : goal.returns-in-Absent-clause-entry
returns-in-Absent-clause-entry c =
    let table : List Entry = c.self.inside.entries in
    let order : List ℕ = c.self.inside.order.items in
    let gap = subst (λ o. IsPlaceFor table o c.args.source.now (Absent c.in-Absent.place)) c.deref.ensures.value c.in-Absent.ensures in
    sym (entry_with-gap table order c.self.invariant c.in-Absent.place c.args.source.now gap) ∙ ap (λ t. entry_with t c.args.source.now) c.self.view_is

pub returns-in-Absent-clause-longer : goal.returns-in-Absent-clause-longer
returns-in-Absent-clause-longer c =
    let table : List Entry = c.self.inside.entries in
    let order : List ℕ = c.self.inside.order.items in
    let gap = subst (λ o. IsPlaceFor table o c.args.source.now (Absent c.in-Absent.place)) c.deref.ensures.value c.in-Absent.ensures in
    let last : c.begins_at-in-Absent.result ≡ begins_at table order c.in-Absent.place c.args.source.now =
    c.begins_at-in-Absent.ensures ∙ ap (λ o. begins_at table o c.in-Absent.place c.args.source.now) c.deref-in-Absent.ensures.value in (
      λ none. subst (λ t. HasNoLonger t c.args.source.now) c.self.view_is (no_longer-gap table order c.in-Absent.place c.args.source.now c.self.invariant gap (sym last ∙ none)),
      λ none.
          false_from_ne_true c.begins_at-in-Absent.result
          (λ some. longer-gap table order c.in-Absent.place c.args.source.now c.self.invariant gap (sym last ∙ some) (subst (λ t. HasNoLonger t c.args.source.now) (sym c.self.view_is) none)),
    )
