use Rattle.std.proofs.Common.{ℕ, subst}
use Rattle.std.specs.Prelude.{MatchOption}
use Rattle.label_patterns.specs.Matches.{no_round}
use Rattle.variant_table.specs.Entries.{TableValue}
use Rattle.variant_table.specs.Segmentations.{seen_under}
use Rattle.valid_labels.specs.inner.Ends.{IsRefusedAt, NoneRefuses}
use Rattle.valid_labels.proofs.DeadPrefixPlaces.{shortest-dead}
use Rattle.valid_labels.proofs.NothingLemmas.{any-cut-asks_nothing}
use Rattle.valid_labels.proofs.SegmentSteps.{unbarred-segments}
use Rattle.valid_labels.proofs.SingleLemmas.{unbarred-steps}
use Rattle.valid_labels.proofs.dead_prefix.shortest_dead_prefix.Goals as goal

pub last_place-requires : goal.last_place-requires
last_place-requires c = record { start = (c.reached-places.ensures 0).1 no_round }

pub returns : goal.returns
returns c =
    let table = c.args.segments.now in
    let label = c.args.label.now in
    let D = c.definitions-definitions.result.now in
    let same = λ (j : ℕ). unbarred-segments table c.table-table.result.now D c.args.seen.now label c.table-table.ensures c.definitions-definitions.ensures.is c.requires.seen j in
    let refused : MatchOption c.refused_by-refused.result (NoneRefuses (seen_under table label) table.definitions.demands) (IsRefusedAt (seen_under table label) table.definitions.demands) =
    subst (λ s. MatchOption c.refused_by-refused.result (NoneRefuses s table.definitions.demands) (IsRefusedAt s table.definitions.demands)) c.requires.seen
    (subst (λ (t : TableValue). MatchOption c.refused_by-refused.result (NoneRefuses c.args.seen.now t.definitions.demands) (IsRefusedAt c.args.seen.now t.definitions.demands)) c.table-table.ensures c.refused_by-refused.ensures) in
    shortest-dead table label c.recall_soundness.ensures.sound (λ any. c.recall_soundness.ensures.asks (any-cut-asks_nothing table any)) c.refused_by-refused.result c.last_place.result c.longest.result refused
    ((same c.last_place.result).0 ((c.reached-places.ensures c.last_place.result).0 c.last_place.ensures.member))
    (λ p l m may. c.last_place.ensures.greatest p l m ((c.reached-places.ensures p).1 ((same p).1 may))) c.longest.ensures.longest c.shortest.result c.shortest.ensures

pub reached-places-requires-clause-steps : goal.reached-places-requires-clause-steps
reached-places-requires-clause-steps c =
    unbarred-steps c.args.segments.now c.table-table.result.now c.definitions-definitions.result.now c.args.seen.now c.args.label.now c.args.singles.now c.free_steps-steps.result
    c.table-table.ensures c.definitions-definitions.ensures.is c.requires.seen c.requires.singles c.free_steps-steps.ensures.known c.free_steps-steps.ensures.leading
