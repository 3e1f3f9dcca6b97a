use Rattle.std.proofs.Common.{◌≡◌, ℕ, ◌+◌, ◌≤◌, Bool, true, false, List, ◌∷◌, length, sym, subst, ◌∙◌}
use Rattle.std.specs.List.{Contains, filter, flat_map}
use Rattle.variant_table.specs.Entries.{Entry, TableValue}
use Rattle.variant_table.specs.Places.{entries_at}
use Rattle.variant_table.specs.WellFormed.{IsWellFormed}
use Rattle.variant_table.proofs.BeginningLemmas.{entries_are_at}
use Rattle.reading_kinds.specs.Drafts.{Draft, with_substitutions}
use Rattle.reading_kinds.specs.Readings.{Substitution}
use Rattle.variant_list.specs.Substitutions.{substitutions_of_entry}
use Rattle.variant_list.specs.declared.substitutions.Cuts.{Cuts}
use Rattle.variant_list.specs.inner.Standing.{stands_by}
use Rattle.variant_list.proofs.ArisingLemmas.{substitutions_at-cuts}
use Rattle.variant_list.proofs.TakenSubstitutions.{HasEntries, HasEntries-none, HasEntries-more, HasEntries-skip, HasEntries-next, HasEntries-all}
use Rattle.variant_list.proofs.SubstitutionLemmas.{IsWithin-at}
use Rattle.variant_list.proofs.substitutions.Substitutions.add_at.Goals as goal

-- an entry at the place
record Here (table : TableValue) (label : List ℕ) (place : ℕ) (e : Entry) : Type 0 where
  in_table : Contains table.entries e
  within : place + length e.source ≤ length label

-- the next entry of a look over those at the place
next : (cuts : Cuts) (table : TableValue) (label : List ℕ) (place : ℕ) (all given left : List Entry) (e : Entry) (rest : List Entry) (old new : Draft) → IsWellFormed table.entries → all ≡ given → given ≡ entries_at table.entries label place
    → HasEntries (stands_by cuts table label place) (substitutions_of_entry table label place) all left old new → left ≡ e ∷ rest → Here table label place e
next cuts table label place all given left e rest old new formed same listed h steps =
    let m = HasEntries-next (stands_by cuts table label place) (substitutions_of_entry table label place) all left e rest old new h steps in
    let at : Contains (entries_at table.entries label place) e = subst (λ es. Contains es e) (same ∙ listed) m in
    record { in_table = (((entries_are_at table.entries label place formed).members e).0 at).0; within = (IsWithin-at table label place e formed at).1 }

pub may_stand-requires-clause-in_table : goal.may_stand-requires-clause-in_table
may_stand-requires-clause-in_table c =
    (next c.args.self.now.cuts c.args.self.now.table.now c.args.self.now.label.now c.args.place c.into_iter-entry-iterator.result c.entries_at-entry-items.result c.loop-entry.entry-iterator c.in-Some.entry c.next.new.self c.args.draft.now c.loop-entry.draft
    c.entries_at-entry-items.ensures.well_formed c.into_iter-entry-iterator.ensures.into_iter_gives c.entries_at-entry-items.ensures.list c.loop-entry.invariant c.in-Some.ensures.steps).in_table

pub may_stand-requires-clause-within : goal.may_stand-requires-clause-within
may_stand-requires-clause-within c =
    (next c.args.self.now.cuts c.args.self.now.table.now c.args.self.now.label.now c.args.place c.into_iter-entry-iterator.result c.entries_at-entry-items.result c.loop-entry.entry-iterator c.in-Some.entry c.next.new.self c.args.draft.now c.loop-entry.draft
    c.entries_at-entry-items.ensures.well_formed c.into_iter-entry-iterator.ensures.into_iter_gives c.entries_at-entry-items.ensures.list c.loop-entry.invariant c.in-Some.ensures.steps).within

pub add_entry-requires-clause-in_table : goal.add_entry-requires-clause-in_table
add_entry-requires-clause-in_table c =
    (next c.args.self.now.cuts c.args.self.now.table.now c.args.self.now.label.now c.args.place c.into_iter-entry-iterator.result c.entries_at-entry-items.result c.loop-entry.entry-iterator c.in-Some.entry c.next.new.self c.args.draft.now c.loop-entry.draft
    c.entries_at-entry-items.ensures.well_formed c.into_iter-entry-iterator.ensures.into_iter_gives c.entries_at-entry-items.ensures.list c.loop-entry.invariant c.in-Some.ensures.steps).in_table

pub add_entry-requires-clause-within : goal.add_entry-requires-clause-within
add_entry-requires-clause-within c =
    (next c.args.self.now.cuts c.args.self.now.table.now c.args.self.now.label.now c.args.place c.into_iter-entry-iterator.result c.entries_at-entry-items.result c.loop-entry.entry-iterator c.in-Some.entry c.next.new.self c.args.draft.now c.loop-entry.draft
    c.entries_at-entry-items.ensures.well_formed c.into_iter-entry-iterator.ensures.into_iter_gives c.entries_at-entry-items.ensures.list c.loop-entry.invariant c.in-Some.ensures.steps).within

pub loop-entry-preserved-in-Continue-1 : goal.loop-entry-preserved-in-Continue-1
loop-entry-preserved-in-Continue-1 c =
    let told : c.may_stand.result ≡ true = search in
    HasEntries-more (stands_by c.args.self.now.cuts c.args.self.now.table.now c.args.self.now.label.now c.args.place) (substitutions_of_entry c.args.self.now.table.now c.args.self.now.label.now c.args.place)
    c.into_iter-entry-iterator.result c.loop-entry.entry-iterator c.in-Some.entry c.next.new.self c.args.draft.now c.loop-entry.draft c.add_entry.new.draft
    c.loop-entry.invariant c.in-Some.ensures.steps (sym c.may_stand.ensures ∙ told) c.in_ok-add_entry.ensures

pub loop-entry-preserved : goal.loop-entry-preserved
loop-entry-preserved c =
    let told : c.may_stand.result ≡ false = search in
    HasEntries-skip (stands_by c.args.self.now.cuts c.args.self.now.table.now c.args.self.now.label.now c.args.place) (substitutions_of_entry c.args.self.now.table.now c.args.self.now.label.now c.args.place)
    c.into_iter-entry-iterator.result c.loop-entry.entry-iterator c.in-Some.entry c.next.new.self c.args.draft.now c.loop-entry.draft
    c.loop-entry.invariant c.in-Some.ensures.steps (sym c.may_stand.ensures ∙ told)

pub returns : goal.returns
returns c =
    let stands : Entry → Bool = stands_by c.args.self.now.cuts c.args.self.now.table.now c.args.self.now.label.now c.args.place in
    let gives : Entry → List Substitution = substitutions_of_entry c.args.self.now.table.now c.args.self.now.label.now c.args.place in
    subst (λ us. c.loop-entry.draft ≡ with_substitutions c.args.draft.now us) (substitutions_at-cuts c.args.self.now.cuts c.args.self.now.table.now c.args.self.now.label.now c.args.place)
    (subst (λ es. c.loop-entry.draft ≡ with_substitutions c.args.draft.now (flat_map gives (filter stands es))) (c.into_iter-entry-iterator.ensures.into_iter_gives ∙ c.entries_at-entry-items.ensures.list)
    (HasEntries-all stands gives c.into_iter-entry-iterator.result c.loop-entry.entry-iterator c.args.draft.now c.loop-entry.draft c.loop-entry.invariant c.in-None.ensures.steps.0))

pub loop-entry-init : goal.loop-entry-init
loop-entry-init c = HasEntries-none (stands_by c.args.self.now.cuts c.args.self.now.table.now c.args.self.now.label.now c.args.place) (substitutions_of_entry c.args.self.now.table.now c.args.self.now.label.now c.args.place) c.into_iter-entry-iterator.result c.args.draft.now
