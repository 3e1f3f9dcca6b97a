use Rattle.std.proofs.Common.{◌≡◌, ℕ, ◌+◌, true, false, sym, subst, ◌∙◌, arith}
use Rattle.std.specs.Prelude.{◌↔◌}
use Rattle.label_patterns.specs.Places.{Has}
use Rattle.valid_labels.specs.inner.Steps.{SourceIs}
use Rattle.valid_labels.proofs.ReachedLemmas.{IsFound, found-start, found-more, found-same, found-all}
use Rattle.valid_labels.proofs.StepLemmas.{steps-on, single-ends}
use Rattle.valid_labels.proofs.cutting.reached.Goals as goal
use Rattle.valid_labels.proofs.cutting.reached.Goals.{then-has, then-has-2, else-has-2, else-has}

pub loop-place-init : goal.loop-place-init
loop-place-init g c =
    let asks = g.A.SourcePredicate.asks c.args.predicate.now in
    found-start (SourceIs asks c.args.table.now.entries c.args.label.now) (steps-on asks c.args.table.now.entries c.args.label.now c.len-entries.ensures.well_formed)

pub loop-place-preserved : goal.loop-place-preserved
loop-place-preserved g c =
    let asks = g.A.SourcePredicate.asks c.args.predicate.now in
    let entries = c.args.table.now.entries in
    let label = c.args.label.now in
    let place = c.loop-place.place in
    let R : ℕ → ℕ → Type 0 = SourceIs asks entries label in
    let on = steps-on asks entries label c.len-entries.ensures.well_formed in
    elim c.if-has.branch [
      | then-has w ↦
          let are : (j : ℕ) → Has w.if-has-2.ends j ↔ R place j = elim w.if-has-2.branch [
            | then-has-2 v ↦ subst (λ n. (j : ℕ) → Has n j ↔ R place j) (sym v.ends-is)
                (single-ends R (Has c.args.steps.leading place) place v.with_place_if-ends.result v.has-then-has-2.result v.has-then-has-2.ensures v.with_place_if-ends.ensures (c.requires.steps place (w.has-then-has.ensures.0 v.if-has-2.true)).1)
            | else-has-2 v ↦ subst (λ n. (j : ℕ) → Has n j ↔ R place j) (sym v.ends-is) v.source_ends-ends.ensures
          ] in
          subst (IsFound R (place + 1)) (sym w.found-is)
          (found-more R on place c.loop-place.found w.if-has-2.ends w.either-found.result (c.has.ensures.0 w.if-has.true) are w.either-found.ensures.places c.loop-place.invariant)
      | else-has w ↦
          subst (IsFound R (place + 1)) (sym w.found-is)
          (found-same R on place c.loop-place.found (λ h. (let e : true ≡ false = sym (c.has.ensures.1 h) ∙ w.if-has.false in cc)) c.loop-place.invariant)
    ]

pub returns : goal.returns
returns g c =
    let asks = g.A.SourcePredicate.asks c.args.predicate.now in
    let entries = c.args.table.now.entries in
    let label = c.args.label.now in
    let on = steps-on asks entries label c.len-entries.ensures.well_formed in
    found-all (SourceIs asks entries label) on c.loop-place.place c.loop-place.found
    (λ i j step. (let l = on i j step in let m = step.3 in omega (arith, l, m, c.loop-place-test.false))) c.loop-place.invariant
