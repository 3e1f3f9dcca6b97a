use Rattle.std.proofs.Common.{true, refl, ap, ◌∙◌}
use Rattle.std.specs.List.{flat_map}
use Rattle.reading_kinds.specs.Drafts.{with_substitutions}
use Rattle.variant_list.specs.inner.NearSubstitutions.{near_source}
use Rattle.variant_list.proofs.TakenSubstitutions.{HasEntries-none, HasEntries-more, HasEntries-all}
use Rattle.variant_list.proofs.NearSteps.{filter-all}
use Rattle.variant_list.proofs.closure.add_entries.Goals as goal

pub loop-entry-init : goal.loop-entry-init
loop-entry-init c = HasEntries-none (λ e. true) near_source c.into_iter-entry-iterator.result c.args.draft.now

pub loop-entry-preserved : goal.loop-entry-preserved
loop-entry-preserved c =
    HasEntries-more (λ e. true) near_source c.into_iter-entry-iterator.result c.loop-entry.entry-iterator c.in-Some.entry c.next.new.self c.args.draft.now c.loop-entry.draft c.add_entry.new.draft
    c.loop-entry.invariant c.in-Some.ensures.steps refl c.in_ok-add_entry.ensures

pub returns : goal.returns
returns c =
    let all = HasEntries-all (λ e. true) near_source c.into_iter-entry-iterator.result c.loop-entry.entry-iterator c.args.draft.now c.loop-entry.draft c.loop-entry.invariant c.in-None.ensures.steps.0 in
    all ∙ ap (λ es. with_substitutions c.args.draft.now (flat_map near_source es)) (filter-all c.into_iter-entry-iterator.result ∙ c.into_iter-entry-iterator.ensures.into_iter_gives ∙ c.entries_at-entry-items.ensures.list)
