use Rattle.std.proofs.Common.{ℕ, ◌+◌, get_or, refl, sym, subst, ◌∙◌}
use Rattle.valid_labels.specs.declared.single_places.SinglePlaces.{SinglePlaces}
use Rattle.valid_labels.specs.inner.Singles.{AreSingles, HasRoom, IsSingle}
use Rattle.valid_labels.proofs.SingleLemmas.{shared-singles, more-singles, same-singles}
use Rattle.valid_labels.proofs.single_places.SinglePlaces.renew.Goals as goal
use Rattle.valid_labels.proofs.single_places.SinglePlaces.renew.Goals.{in-Some, in_default}

pub loop-place-init : goal.loop-place-init
loop-place-init c = record {
  singles = shared-singles c.args.points.now c.args.cached.now c.args.label.now c.args.shared c.args.self.now c.keep_first.new.self c.requires.same c.requires.singles c.keep_first.ensures.first;
  same = refl;
  room = c.keep_first.ensures.room;
}

pub loop-place-preserved : goal.loop-place-preserved
loop-place-preserved c =
    let table = c.args.points.now in
    let label = c.args.label.now in
    let place = c.loop-place.place in
    let now = c.loop-place.invariant in
    let Kept : SinglePlaces → Type 0 = λ places. AreSingles (place + 1) table label places in
    let Room : SinglePlaces → Type 0 = λ places. (n : ℕ) → HasRoom n c.args.self.now → HasRoom n places in
    elim c.match-find.branch [
      | in-Some w ↦
          record {
            singles = subst Kept (sym w.self-is) (more-singles table label place w.in-Some.single.condition c.loop-place.self w.add.new.self now.singles (subst (λ t. IsSingle t (get_or label place 0) w.in-Some.single.condition) now.same w.in-Some.ensures.single) w.add.ensures.added);
            same = c.find.ensures.same ∙ now.same;
            room = subst Room (sym w.self-is) (λ n h. w.add.ensures.room n (now.room n h));
          }
      | in_default w ↦
          record {
            singles = subst Kept (sym w.self-is) (same-singles table label place c.loop-place.self now.singles);
            same = c.find.ensures.same ∙ now.same;
            room = subst Room (sym w.self-is) now.room;
          }
    ]
