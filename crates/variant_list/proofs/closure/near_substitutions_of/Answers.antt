use Rattle.std.proofs.Common.{◌≡◌, ◌-◌, ℕ, List, [], ◌∷◌, ◌++◌, ap, ◌∙◌, length}
use Rattle.std.specs.Prelude.{min}
use Rattle.std.specs.List.{flat_map}
use Rattle.variant_table.specs.Places.{entries_at}
use Rattle.reading_kinds.specs.Drafts.{Draft, with_substitutions}
use Rattle.reading_kinds.specs.Readings.{Substitution}
use Rattle.variant_list.specs.inner.NearSubstitutions.{near_source, near_variants}
use Rattle.variant_list.proofs.NearSteps.{near_place-done}
use Rattle.variant_list.proofs.TakenSubstitutions.{with_substitutions-twice}
use Rattle.variant_list.proofs.closure.near_substitutions_of.Goals as goal

pub loop-place-preserved : goal.loop-place-preserved
loop-place-preserved c =
    let label : List ℕ = c.args.label.now in
    let place : ℕ = c.loop-place.place in
    let sources : List Substitution = flat_map near_source (entries_at c.args.table.now.entries label place) in
    let variants : List Substitution = near_variants c.args.reversed.now label place (min (length label - place) 8) in
    let ended_of : Draft → Draft = λ (d : Draft). record { done = d.done ++ d.begun ∷ []; begun = [] } in
    let both : c.add_variants.new.draft ≡ with_substitutions c.loop-place.draft (sources ++ variants) =
    c.in_ok-add_variants.ensures ∙ ap (λ d. with_substitutions d variants) c.in_ok-add_entries.ensures ∙ with_substitutions-twice c.loop-place.draft sources variants in
    near_place-done c.args.table.now c.args.reversed.now label place c.loop-place.draft c.end_place.new.self c.loop-place.invariant (c.in_ok-end_place.ensures ∙ ap ended_of both)
