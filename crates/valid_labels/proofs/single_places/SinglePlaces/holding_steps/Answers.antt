use Rattle.std.proofs.Common.{ℕ, ◌+◌, ◌<◌, length, map, sym, subst, arith}
use Rattle.std.specs.Prelude.{◌↔◌}
use Rattle.std.proofs.lemmas.List.{get_or_read}
use Rattle.label_patterns.specs.Conditions.{rule_at}
use Rattle.label_patterns.specs.Matches.{HasItsSets}
use Rattle.label_patterns.specs.Places.{Has}
use Rattle.label_patterns.specs.Rules.{Holds}
use Rattle.label_patterns.specs.Trees.{pattern}
use Rattle.label_patterns.proofs.AskingLemmas.{all-at, rule-read}
use Rattle.valid_labels.specs.declared.cutting.SingleSteps.{SingleSteps}
use Rattle.valid_labels.specs.inner.Singles.{AreHoldingSteps}
use Rattle.valid_labels.proofs.SingleLemmas.{more-holding}
use Rattle.valid_labels.proofs.single_places.SinglePlaces.holding_steps.Goals as goal
use Rattle.valid_labels.proofs.single_places.SinglePlaces.holding_steps.Goals.{then-asked-ne0, else-asked-ne0}

pub holding_points-holding-requires : goal.holding_points-holding-requires
holding_points-holding-requires c =
    let rules = c.args.rules.now in
    let number = c.loop-number.number in
    subst (HasItsSets (length c.args.seen.now.sets)) (rule-read rules number c.index-rules-number.result c.loop-number-test.true c.index-rules-number.is)
    (all-at (HasItsSets (length c.args.seen.now.sets)) rules number c.requires.sets c.loop-number-test.true)

pub loop-number-preserved : goal.loop-number-preserved
loop-number-preserved c =
    let rules = map pattern c.args.rules.now in
    let seen = c.args.seen.now in
    let places = c.args.self.now in
    let number = c.loop-number.number in
    let P : ℕ → ℕ → Type 0 = λ known leading. (let steps : SingleSteps = record { known = known; leading = leading } in AreHoldingSteps rules seen places steps) in
    let room = c.requires.room in
    let when = get_or_read places.when.items number c.index-when.result.now (omega (arith, room.0, c.loop-number-test.true)) c.index-when.ensures 0 in
    let unless = get_or_read places.unless.items number c.index-unless.result.now (omega (arith, room.1, c.loop-number-test.true)) c.index-unless.ensures 0 in
    elim c.if-asked-ne0.branch [
      | then-asked-ne0 w ↦
          let rule = rule-read c.args.rules.now number w.index-rules-number.result c.loop-number-test.true w.index-rules-number.is in
          let holds : (i : ℕ) → i < length seen.label → Has w.holding_points-holding.result i ↔ Holds seen (rule_at rules number) i (i + 1) =
          subst (λ p. (i : ℕ) → i < length seen.label → Has w.holding_points-holding.result i ↔ Holds seen p i (i + 1)) (sym rule)
          (λ i l. let e = w.holding_points-holding.ensures i in (λ h. (e.0 h).1, λ h. e.1 (l, h))) in
          subst (λ k. P k c.if-asked-ne0.leading) (sym w.known-is) (subst (P w.either-known.result) (sym w.leading-is)
          (more-holding rules seen places number c.loop-number.known c.loop-number.leading c.index-when.result.now c.index-unless.result.now c.either-asked.result w.holding_points-holding.result w.both.result w.without.result w.either.result
          w.either-known.result w.either-leading.result when unless c.requires.within holds c.either-asked.ensures.places w.either-known.ensures.places w.both.ensures w.without.ensures w.either.ensures.places w.either-leading.ensures.places
          c.loop-number.invariant))
      | else-asked-ne0 w ↦ subst (λ k. P k c.if-asked-ne0.leading) (sym w.known-is) (subst (P c.loop-number.known) (sym w.leading-is) c.loop-number.invariant)
    ]
