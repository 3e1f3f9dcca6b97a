use Rattle.variant_list.specs.Arising.{table_for}
use Rattle.variant_list.proofs.TakenSubstitutions.{place-done}
use Rattle.variant_list.proofs.substitutions.Substitutions.found.Goals as goal

pub loop-place-preserved : goal.loop-place-preserved
loop-place-preserved c =
    place-done (table_for c.args.self.now.cuts c.args.self.now.table.now) c.args.self.now.label.now c.loop-place.place c.loop-place.draft c.add_at.new.draft c.end_place.new.self c.loop-place.invariant c.in_ok-add_at.ensures c.in_ok-end_place.ensures
