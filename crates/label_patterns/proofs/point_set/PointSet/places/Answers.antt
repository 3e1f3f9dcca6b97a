use Rattle.std.proofs.Common.{◌≡◌, Bool, ℕ, ◌⊎◌, subst, arith}
use Rattle.std.specs.Prelude.{◌↔◌, IsTrue}
use Rattle.label_patterns.specs.Places.{Has}
use Rattle.label_patterns.specs.Sets.{is_in}
use Rattle.label_patterns.proofs.PlaceLemmas.{no-places, more-places, all-places}
use Rattle.label_patterns.proofs.point_set.PointSet.places.Goals as goal

pub loop-place-init : goal.loop-place-init
loop-place-init c = no-places (is_in c.args.self.now) c.args.label.now

pub loop-place-preserved : goal.loop-place-preserved
loop-place-preserved c =
    let P : Bool → Type 0 = λ b. (p : ℕ) → Has c.with_place_if-places.result p ↔ (Has c.loop-place.places p ⊎ (IsTrue b × (p ≡ c.loop-place.place))) in
    more-places (is_in c.args.self.now) c.args.label.now c.loop-place.place c.loop-place.places c.with_place_if-places.result c.loop-place.invariant
    (subst P c.contains.ensures c.with_place_if-places.ensures)

pub returns : goal.returns
returns c = all-places (is_in c.args.self.now) c.args.label.now c.loop-place.place c.loop-place.places (omega arith) c.loop-place.invariant
