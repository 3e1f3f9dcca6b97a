use Rattle.std.proofs.Common.{◌≡◌, sym, subst, ap, ◌+◌, arith, length}
use Rattle.reading_kinds.specs.Readings.{Substitution, substitutions_at}
use Rattle.reading_kinds.specs.inner.Cuts.{Fits}
use Rattle.reading_kinds.proofs.TakenLemmas.{TakenUpTo-add, TakenUpTo-skip, TakenUpTo-all, TakenUpTo-reached, TakenUpTo, Contains-slice_get, EndsWith-equal, EndsWith-unequal}
use Rattle.reading_kinds.proofs.board.Board.take_place.Goals as goal
use Rattle.reading_kinds.proofs.board.Board.take_place.Goals.{then-eq, else-eq}

pub overflow_add-to : goal.overflow_add-to
overflow_add-to c =
    let u : Substitution = record { covers = c.get-found.result.covers; kinds = c.get-found.result.kinds; points = c.get-found.result.points.now } in
    let is : Fits c.args.substitutions.now c.args.place u = c.requires.substitutions c.args.place u (Contains-slice_get (substitutions_at c.args.substitutions.now c.args.place) c.loop-number.number u c.get-found.ensures) in
    omega (arith, is.within, c.requires.wide)

pub add_after-requires-clause-bit : goal.add_after-requires-clause-bit
add_after-requires-clause-bit c =
    let u : Substitution = record { covers = c.get-found.result.covers; kinds = c.get-found.result.kinds; points = c.get-found.result.points.now } in
    let is : Fits c.args.substitutions.now c.args.place u = c.requires.substitutions c.args.place u (Contains-slice_get (substitutions_at c.args.substitutions.now c.args.place) c.loop-number.number u c.get-found.ensures) in
    omega (arith, is.within, c.requires.wide)

pub add_after-requires-clause-from : goal.add_after-requires-clause-from
add_after-requires-clause-from c = omega (arith, ap (λ s. s.places) c.loop-number.invariant.grows.size, c.requires.places, c.requires.place)

pub add_after-requires-clause-to : goal.add_after-requires-clause-to
add_after-requires-clause-to c =
    let u : Substitution = record { covers = c.get-found.result.covers; kinds = c.get-found.result.kinds; points = c.get-found.result.points.now } in
    let is : Fits c.args.substitutions.now c.args.place u = c.requires.substitutions c.args.place u (Contains-slice_get (substitutions_at c.args.substitutions.now c.args.place) c.loop-number.number u c.get-found.ensures) in
    omega (arith, ap (λ s. s.places) c.loop-number.invariant.grows.size, c.requires.places, is.within)

pub add_after-requires-clause-reached : goal.add_after-requires-clause-reached
add_after-requires-clause-reached c =
    TakenUpTo-reached c.args.substitutions.now c.args.label.now c.args.self.now c.args.column c.args.count c.args.place c.requires.some c.requires.count c.requires.right c.requires.reached c.loop-number.self c.loop-number.number c.loop-number.invariant

pub loop-number-preserved : goal.loop-number-preserved
loop-number-preserved c =
    let u : Substitution = record { covers = c.get-found.result.covers; kinds = c.get-found.result.kinds; points = c.get-found.result.points.now } in
    elim c.if-eq.branch [
      | then-eq w ↦
          let stands = EndsWith-equal c.args.label.now u.points c.args.column c.args.count c.requires.count c.requires.within (sym w.if-eq.ensures) in
          subst (λ x. TakenUpTo c.args.substitutions.now c.args.label.now c.args.self.now x c.args.column c.args.count c.args.place (c.loop-number.number + 1)) (sym w.self-is)
          (TakenUpTo-add c.args.substitutions.now c.args.label.now c.args.self.now c.args.column c.args.count c.args.place c.requires.some c.requires.count c.requires.right c.requires.reached c.loop-number.self w.add_after.new.self c.loop-number.number u c.get-found.ensures stands.0 stands.1 w.add_after.ensures.adds w.add_after.ensures.size c.loop-number.invariant)
      | else-eq w ↦
          subst (λ x. TakenUpTo c.args.substitutions.now c.args.label.now c.args.self.now x c.args.column c.args.count c.args.place (c.loop-number.number + 1)) (sym w.self-is)
          (TakenUpTo-skip c.args.substitutions.now c.args.label.now c.args.self.now c.args.column c.args.count c.args.place c.requires.some c.requires.count c.requires.right c.requires.reached c.loop-number.self c.loop-number.number u c.get-found.ensures (EndsWith-unequal c.args.label.now u.points c.args.column c.args.count c.requires.count c.requires.within (sym w.if-eq.ensures)) c.loop-number.invariant)
    ]

pub returns-clause-taken : goal.returns-clause-taken
returns-clause-taken c u there counted =
    let whole : c.loop-number.number ≡ length (substitutions_at c.args.substitutions.now c.args.place) = omega (arith, c.count_at-number-end.ensures, c.loop-number-test.false, c.loop-number.auto.number-end) in
    TakenUpTo-all c.args.substitutions.now c.args.label.now c.args.self.now c.args.column c.args.count c.args.place c.requires.some c.requires.count c.requires.right c.requires.reached c.loop-number.self u
    (subst (λ n. TakenUpTo c.args.substitutions.now c.args.label.now c.args.self.now c.loop-number.self c.args.column c.args.count c.args.place n) whole c.loop-number.invariant) there counted
