use Rattle.std.proofs.Common.{◌≡◌, ℕ, ◌+◌, ◌++◌, ◌∷◌, ◌≤◌, [], Bool, false, true, Option, None, List, length, refl, map, take, sym, ap, subst, ◌∙◌}
use Rattle.std.specs.List.{flat_map}
use Rattle.std.specs.Prelude.{is_some}
use Rattle.std.proofs.lemmas.List.{append-nil, take_all}
use Rattle.std.proofs.lemmas.List.Elements.{Contains-append_left}
use Rattle.std.proofs.lemmas.Result.{err_from_is_err_and}
use Rattle.lgr_text.specs.Records.{Action, Entry, action, entry, file, variant}
use Rattle.lgr_text.specs.declared.records.Action as held
use Rattle.lgr_text.specs.declared.records.Ruleset.{Ruleset}
use Rattle.lgr_table.specs.Entries.{needs_type}
use Rattle.lgr_table.specs.Numbers.{trigger_types, types_of, variant_type}
use Rattle.lgr_table.specs.Tables.{may_stand}
use Rattle.lgr_table.specs.inner.TypeSteps.{AreTypes, TellsTypes}
use Rattle.lgr_table.proofs.TypeLemmas.{no_types, pieces-in, pieces-more, tells-full, tells-more, tells-untyped, types_found, untyped_added}
use Rattle.lgr_table.proofs.types.types_of.Goals as goal

abbrev of_entry : Entry → List (List ℕ)
of_entry e = flat_map variant_type e.variants

abbrev of_action : Action → List (List ℕ)
of_action a = trigger_types a.trigger

pub loop-entry-init : goal.loop-entry-init
loop-entry-init c = subst (λ (l : List (Option (List ℕ))). AreTypes false [] l) (sym c.new-types.ensures.items) no_types

pub loop-entry-preserved : goal.loop-entry-preserved
loop-entry-preserved c =
    let xs = c.deref-entry-items.result.now in
    let i = c.loop-entry.entry-index in
    let before = flat_map of_entry (map entry (take i xs)) in
    subst (λ (l : List (List ℕ)). AreTypes false l c.add_of_variants.new.types.items)
    (ap (λ l. before ++ flat_map variant_type (map variant l)) c.deref.ensures.value ∙ pieces-more of_entry entry [] xs i c.entry-item.result c.loop-entry-test.true c.entry-item.is)
    (c.in_ok-add_of_variants.ensures.types before c.loop-entry.invariant)

pub loop-action-init : goal.loop-action-init
loop-action-init c =
    let xs = c.deref-entry-items.result.now in
    subst (λ (l : List (List ℕ)). AreTypes false l c.loop-entry.types.items)
    (ap (λ l. flat_map of_entry (map entry l)) (take_all c.loop-entry.entry-index xs c.loop-entry-test.false ∙ c.deref-entry-items.ensures.value)
    ∙ sym (append-nil (flat_map of_entry (map entry c.args.«ruleset».now.entries.items))))
    c.loop-entry.invariant

pub loop-action-preserved : goal.loop-action-preserved
loop-action-preserved c =
    let xs = c.deref-action-items.result.now in
    let i = c.loop-action.action-index in
    let front = flat_map of_entry (map entry c.args.«ruleset».now.entries.items) in
    let before = front ++ flat_map of_action (map action (take i xs)) in
    subst (λ (l : List (List ℕ)). AreTypes false l c.add_of_trigger.new.types.items)
    (pieces-more of_action action front xs i c.action-item.result c.loop-action-test.true c.action-item.is)
    (c.in_ok-add_of_trigger.ensures.types before c.loop-action.invariant)

-- what all entries and actions ask for
all_types : (r : Ruleset) (xs : List held.Action) (types : List (Option (List ℕ))) (i : ℕ)
    → AreTypes false (flat_map of_entry (file r).entries ++ flat_map of_action (map action (take i xs))) types → length xs ≤ i → xs ≡ r.actions.items
    → AreTypes false (types_of (file r)) types
all_types r xs types i are all is =
    subst (λ (l : List held.Action). AreTypes false (flat_map of_entry (file r).entries ++ flat_map of_action (map action l)) types) (take_all i xs all ∙ is) are

pub returns-in_default-clause-types : goal.returns-in_default-clause-types
returns-in_default-clause-types c =
    let r = c.args.«ruleset».now in
    let need : is_some c.in_ok-untyped.untyped ≡ needs_type (may_stand c.args.properties) (file r).entries =
    c.in_ok-untyped.ensures ∙ ap (λ l. needs_type (may_stand c.args.properties) (map entry l)) c.deref-2.ensures.value in
    types_found (may_stand c.args.properties) (file r) false c.loop-action.types.items
    (all_types r c.deref-action-items.result.now c.loop-action.types.items c.loop-action.action-index c.loop-action.invariant c.loop-action-test.false c.deref-action-items.ensures.value)
    (ap is_some (sym c.in_default.is) ∙ need)

pub returns-clause-types : goal.returns-clause-types
returns-clause-types c =
    let r = c.args.«ruleset».now in
    let need : is_some c.in_ok-untyped.untyped ≡ needs_type (may_stand c.args.properties) (file r).entries =
    c.in_ok-untyped.ensures ∙ ap (λ l. needs_type (may_stand c.args.properties) (map entry l)) c.deref-2.ensures.value in
    let before =
    all_types r c.deref-action-items.result.now c.loop-action.types.items c.loop-action.action-index c.loop-action.invariant c.loop-action-test.false c.deref-action-items.ensures.value in
    types_found (may_stand c.args.properties) (file r) true c.add_type.new.types.items
    (subst (λ (l : List (Option (List ℕ))). AreTypes true (types_of (file r)) l) (sym c.in_ok-add_type.ensures.added)
    (untyped_added (types_of (file r)) c.loop-action.types.items before))
    (ap is_some (sym c.in-Some.is) ∙ need)

pub returns-in_err-add_of_variants-clause-fault : goal.returns-in_err-add_of_variants-clause-fault
returns-in_err-add_of_variants-clause-fault c =
    let p = err_from_is_err_and c.from_residual.result c.from_residual.ensures.1 in
    let r = c.args.«ruleset».now in
    let xs = c.deref-entry-items.result.now in
    let i = c.loop-entry.entry-index in
    let untyped = needs_type (may_stand c.args.properties) (file r).entries in
    let told = c.in_err-add_of_variants.field-0.0 in
    let before = flat_map of_entry (map entry (take i xs)) in
    let next : TellsTypes false (flat_map of_entry (map entry (take (i + 1) xs))) told =
    subst (λ (l : List (List ℕ)). TellsTypes false l told)
    (ap (λ l. before ++ flat_map variant_type (map variant l)) c.deref.ensures.value ∙ pieces-more of_entry entry [] xs i c.entry-item.result c.loop-entry-test.true c.entry-item.is)
    (c.in_err-add_of_variants.ensures.fault before c.loop-entry.invariant) in
    let whole : TellsTypes false (flat_map of_entry (map entry r.entries.items)) told =
    subst (λ l. TellsTypes false (flat_map of_entry (map entry l)) told) c.deref-entry-items.ensures.value
    (tells-more false _ (flat_map of_entry (map entry xs)) told (pieces-in of_entry entry [] xs (i + 1)) next) in
    rw (p.1, p.2) (tells-untyped untyped (types_of (file r)) told
    (tells-more false _ (types_of (file r)) told (λ n. Contains-append_left (flat_map of_entry (map entry r.entries.items)) _ n) whole))

pub returns-in_err-add_of_trigger-clause-fault : goal.returns-in_err-add_of_trigger-clause-fault
returns-in_err-add_of_trigger-clause-fault c =
    let p = err_from_is_err_and c.from_residual-in_err-add_of_trigger.result c.from_residual-in_err-add_of_trigger.ensures.1 in
    let r = c.args.«ruleset».now in
    let xs = c.deref-action-items.result.now in
    let i = c.loop-action.action-index in
    let untyped = needs_type (may_stand c.args.properties) (file r).entries in
    let told = c.in_err-add_of_trigger.field-0.0 in
    let front = flat_map of_entry (map entry r.entries.items) in
    let before = front ++ flat_map of_action (map action (take i xs)) in
    let next : TellsTypes false (front ++ flat_map of_action (map action (take (i + 1) xs))) told =
    subst (λ (l : List (List ℕ)). TellsTypes false l told) (pieces-more of_action action front xs i c.action-item.result c.loop-action-test.true c.action-item.is)
    (c.in_err-add_of_trigger.ensures.fault before c.loop-action.invariant) in
    let whole : TellsTypes false (types_of (file r)) told =
    subst (λ l. TellsTypes false (front ++ flat_map of_action (map action l)) told) c.deref-action-items.ensures.value
    (tells-more false _ (front ++ flat_map of_action (map action xs)) told (pieces-in of_action action front xs (i + 1)) next) in
    rw (p.1, p.2) (tells-untyped untyped (types_of (file r)) told whole)

pub returns-in_err-add_type-clause-fault : goal.returns-in_err-add_type-clause-fault
returns-in_err-add_type-clause-fault c =
    let p = err_from_is_err_and c.from_residual-in_err-add_type.result c.from_residual-in_err-add_type.ensures.1 in
    let r = c.args.«ruleset».now in
    let told = c.in_err-add_type.field-0.0 in
    let old = c.loop-action.types.items in
    let need : is_some c.in_ok-untyped.untyped ≡ needs_type (may_stand c.args.properties) (file r).entries =
    c.in_ok-untyped.ensures ∙ ap (λ l. needs_type (may_stand c.args.properties) (map entry l)) c.deref-2.ensures.value in
    let before =
    all_types r c.deref-action-items.result.now old c.loop-action.action-index c.loop-action.invariant c.loop-action-test.false c.deref-action-items.ensures.value in
    let full : TellsTypes true (types_of (file r)) told =
    tells-full true (types_of (file r)) old (old ++ None ∷ []) None told refl (untyped_added (types_of (file r)) old before) c.in_err-add_type.ensures.fault in
    rw (p.1, p.2) (subst (λ (b : Bool). TellsTypes b (types_of (file r)) told) (ap is_some (sym c.in-Some.is) ∙ need) full)
