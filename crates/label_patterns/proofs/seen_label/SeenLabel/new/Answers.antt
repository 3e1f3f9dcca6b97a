use Rattle.std.proofs.Common.{◌<◌, [], length, length-set, subst, ◌∙◌, arith}
use Rattle.std.proofs.lemmas.List.{get_or_read}
use Rattle.label_patterns.specs.Places.{AreThePlaces}
use Rattle.label_patterns.specs.Sets.{is_in}
use Rattle.label_patterns.proofs.OneLemmas.{more-masks}
use Rattle.label_patterns.proofs.seen_label.SeenLabel.new.Goals as goal

pub loop-number-preserved : goal.loop-number-preserved
loop-number-preserved c =
    let sets = c.args.sets.now in
    let number = c.loop-number.number in
    let now = c.loop-number.invariant in
    let inside : number < length c.loop-number.masks = omega (arith, c.loop-number-test.true, now.room) in
    let set = get_or_read sets number c.index-sets-number.result c.loop-number-test.true c.index-sets-number.is [] in
    record {
      room = length-set c.loop-number.masks number c.places.result ∙ now.room;
      masks = more-masks sets c.args.label.now c.loop-number.masks number c.places.result inside now.masks
          (subst (λ spans. AreThePlaces (is_in spans) c.args.label.now c.places.result) set c.places.ensures);
    }

pub invariant_of-result : goal.invariant_of-result
invariant_of-result c = (
  c.requires.short,
  (c.loop-number.invariant.room, λ m l. c.loop-number.invariant.masks m (omega (arith, l, c.loop-number-test.false))),
)
