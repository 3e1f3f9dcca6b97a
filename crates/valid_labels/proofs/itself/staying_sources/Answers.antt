use Rattle.valid_labels.proofs.StayingLemmas.{place-done}
use Rattle.valid_labels.proofs.itself.staying_sources.Goals as goal

pub loop-place-preserved : goal.loop-place-preserved
loop-place-preserved c =
    place-done c.args.table.now c.args.label.now c.loop-place.place c.loop-place.draft c.add_sources.new.draft c.end_place.new.self c.loop-place.invariant c.in_ok-add_sources.ensures c.in_ok-end_place.ensures
