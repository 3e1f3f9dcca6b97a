use Rattle.std.proofs.Common.{rules, List, sym, subst}
use Rattle.std.proofs.lemmas.List.Sorted.{IsPermutation-sym, Contains-permutation, IsNonDecreasingBy-from_sort_by_key}
use Rattle.variant_list.specs.declared.edges.Edge.{Edge}
use Rattle.variant_list.specs.inner.Layouts.{Draft, IsSound, LeadInto, Rise, HasPlace}
use Rattle.variant_list.proofs.DraftLemmas.{HasEnded-parts}
use Rattle.variant_list.proofs.PlanLemmas.{HasPlace-reordered}
use Rattle.variant_list.proofs.draft.NetDraft.end_place.Goals as goal

pub add_place-requires-clause-inside : goal.add_place-requires-clause-inside
add_place-requires-clause-inside c =
    let sound : IsSound (record { plan = c.self.inside.layout; places = c.self.inside.places.items; begun = c.self.inside.begun.items }) = subst IsSound (sym c.self.view_is) c.requires.sound in
    let edges : List Edge = c.self.inside.begun.items in
    let sorted : List Edge = c.sort_unstable_by_key.new.self.items in
    subst (LeadInto c.self.inside.layout) (sym c.deref.ensures.value)
    (λ e m. sound.lead e (Contains-permutation sorted edges e (IsPermutation-sym edges sorted c.sort_unstable_by_key.ensures.permutation) m))

pub add_place-requires-clause-rise : goal.add_place-requires-clause-rise
add_place-requires-clause-rise c =
    subst Rise (sym c.deref.ensures.value)
    (IsNonDecreasingBy-from_sort_by_key (λ (e : Edge). e.point) _ c.sort_unstable_by_key.ensures.sorted (λ a r q k. search rules))

pub returns : goal.returns
returns c =
    let inner : Draft = record { plan = c.self.inside.layout; places = c.self.inside.places.items; begun = c.self.inside.begun.items } in
    let made : HasPlace inner.plan inner.begun c.add_place.new.self c.in_ok-place.place =
    HasPlace-reordered inner.plan c.add_place.new.self inner.begun c.sort_unstable_by_key.new.self.items c.in_ok-place.place c.sort_unstable_by_key.ensures.permutation
    (subst (λ es. HasPlace inner.plan es c.add_place.new.self c.in_ok-place.place) c.deref.ensures.value c.in_ok-place.ensures) in
    HasEnded-parts inner _ _ c.in_ok-place.place c.self.view_is c.requires.sound made (search rules) (search rules)
