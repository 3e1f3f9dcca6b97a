use Rattle.std.proofs.Common.{rules, arith, ap, ◌∙◌}
use Rattle.reading_kinds.proofs.ColumnLemmas.{IsRight-grows}
use Rattle.reading_kinds.proofs.TakenLemmas.{PlacesTaken-place, PlacesTaken-skip, lowest_is, rest_less}
use Rattle.reading_kinds.proofs.board.Board.take_count.Goals as goal

pub take_place-requires-clause-reached : goal.take_place-requires-clause-reached
take_place-requires-clause-reached c =
    let is = lowest_is c.args.substitutions.now c.args.label.now c.args.self.now c.args.column c.args.count c.requires.some c.requires.count c.requires.column c.requires.substitutions c.requires.wide c.loop-left.left (omega (arith, c.loop-left-test.true)) (search rules) in
    c.loop-left.invariant.ahead _ is.0 is.1

pub take_place-requires-clause-places : goal.take_place-requires-clause-places
take_place-requires-clause-places c = ap (λ s. s.places) c.loop-left.invariant.grows.size ∙ c.requires.places

pub take_place-requires-clause-right : goal.take_place-requires-clause-right
take_place-requires-clause-right c =
    IsRight-grows c.args.substitutions.now c.args.label.now c.args.self.now c.loop-left.self c.args.column (omega (arith, c.requires.some, c.requires.count)) c.loop-left.invariant.grows c.requires.right

pub loop-left-smaller-then-place-len : goal.loop-left-smaller-then-place-len
loop-left-smaller-then-place-len c = rest_less c.args.substitutions.now c.args.label.now c.args.self.now c.args.column c.args.count c.requires.some c.requires.count c.requires.column c.requires.substitutions c.requires.wide c.loop-left.left (omega (arith, c.loop-left-test.true)) (search rules)

pub loop-left-preserved-then-place-len : goal.loop-left-preserved-then-place-len
loop-left-preserved-then-place-len c =
    PlacesTaken-place c.args.substitutions.now c.args.label.now c.args.self.now c.args.column c.args.count c.requires.some c.requires.count c.requires.column c.requires.substitutions c.requires.wide c.loop-left.left (omega (arith, c.loop-left-test.true)) (search rules) c.loop-left.self c.take_place.new.self c.take_place.ensures.grows c.take_place.ensures.sound c.take_place.ensures.taken c.loop-left.invariant

pub loop-left-smaller : goal.loop-left-smaller
loop-left-smaller c = rest_less c.args.substitutions.now c.args.label.now c.args.self.now c.args.column c.args.count c.requires.some c.requires.count c.requires.column c.requires.substitutions c.requires.wide c.loop-left.left (omega (arith, c.loop-left-test.true)) (search rules)

pub loop-left-preserved : goal.loop-left-preserved
loop-left-preserved c =
    PlacesTaken-skip c.args.substitutions.now c.args.label.now c.args.self.now c.args.column c.args.count c.requires.some c.requires.count c.requires.column c.requires.substitutions c.requires.wide c.loop-left.left (omega (arith, c.loop-left-test.true)) (search rules) c.loop-left.self (λ l. omega (arith, l, c.if-place-len.false, c.len.ensures)) c.loop-left.invariant
