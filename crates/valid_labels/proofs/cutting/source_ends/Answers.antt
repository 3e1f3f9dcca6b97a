use Rattle.std.proofs.Common.{◌+◌, length, sym, ap, subst, arith}
use Rattle.variant_table.specs.Places.{AreEntriesAt}
use Rattle.valid_labels.proofs.EndLemmas.{one-done, all-done, entry-inside}
use Rattle.valid_labels.proofs.cutting.source_ends.Goals as goal

pub holds-requires : goal.holds-requires
holds-requires g c =
    let inside = entry-inside (g.A.SourcePredicate.asks c.args.predicate.now) c.args.place c.args.table.now.entries c.args.label.now c.into_iter-entry-iterator.result c.loop-entry.entry-iterator c.in-Some.entry c.next.new.self c.loop-entry.ends
    (subst (AreEntriesAt c.args.table.now.entries c.args.label.now c.args.place) (sym c.into_iter-entry-iterator.ensures.into_iter_gives) c.entries_at-entry-items.ensures.entries) c.requires.place c.in-Some.ensures.steps c.loop-entry.invariant in
    (length c.args.label.now, c.requires.ready, c.requires.place, omega (arith, inside, ap length c.source.ensures))

pub with_place_if-ends-requires : goal.with_place_if-ends-requires
with_place_if-ends-requires g c =
    let inside = entry-inside (g.A.SourcePredicate.asks c.args.predicate.now) c.args.place c.args.table.now.entries c.args.label.now c.into_iter-entry-iterator.result c.loop-entry.entry-iterator c.in-Some.entry c.next.new.self c.loop-entry.ends
    (subst (AreEntriesAt c.args.table.now.entries c.args.label.now c.args.place) (sym c.into_iter-entry-iterator.ensures.into_iter_gives) c.entries_at-entry-items.ensures.entries) c.requires.place c.in-Some.ensures.steps c.loop-entry.invariant in
    omega (arith, inside, ap length c.source.ensures, c.requires.short)

pub loop-entry-preserved : goal.loop-entry-preserved
loop-entry-preserved g c =
    one-done (g.A.SourcePredicate.asks c.args.predicate.now) c.args.place c.into_iter-entry-iterator.result c.loop-entry.entry-iterator c.in-Some.entry c.next.new.self c.loop-entry.ends c.with_place_if-ends.result
    (c.args.place + length c.source.result.now) c.holds.result c.in-Some.ensures.steps (ap (λ s. c.args.place + length s) c.source.ensures) c.holds.ensures c.with_place_if-ends.ensures c.loop-entry.invariant

pub returns : goal.returns
returns g c =
    all-done (g.A.SourcePredicate.asks c.args.predicate.now) c.args.table.now.entries c.args.label.now c.args.place c.into_iter-entry-iterator.result c.loop-entry.entry-iterator c.loop-entry.ends
    (subst (AreEntriesAt c.args.table.now.entries c.args.label.now c.args.place) (sym c.into_iter-entry-iterator.ensures.into_iter_gives) c.entries_at-entry-items.ensures.entries) c.requires.place c.in-None.ensures.steps.0 c.loop-entry.invariant
