use Rattle.std.proofs.Common.{◌≡◌, ◌+◌, ap, ◌∙◌, arith}
use Rattle.std.specs.Prelude.{min}
use Rattle.reading_kinds.proofs.ColumnLemmas.{IsRight-grows, IsRight-step}
use Rattle.reading_kinds.proofs.TakenLemmas.{CountsTaken-start, CountsTaken-count, CountsTaken-all, IsSoundAt-cleared, IsRight-cleared}
use Rattle.reading_kinds.proofs.board.Board.fill_column.Goals as goal

pub loop-count-init : goal.loop-count-init
loop-count-init c =
    CountsTaken-start c.args.substitutions.now c.args.label.now c.clear.new.self c.args.column c.requires.substitutions
    (IsSoundAt-cleared c.args.substitutions.now c.args.label.now c.args.self.now c.clear.new.self c.args.column c.clear.ensures.clears)

pub take_count-requires-clause-right : goal.take_count-requires-clause-right
take_count-requires-clause-right c =
    IsRight-grows c.args.substitutions.now c.args.label.now c.clear.new.self c.loop-count.self c.args.column c.requires.some c.loop-count.invariant.grows
    (IsRight-cleared c.args.substitutions.now c.args.label.now c.args.self.now c.clear.new.self c.args.column c.clear.ensures.clears c.requires.some c.requires.right)

pub loop-count-preserved : goal.loop-count-preserved
loop-count-preserved c =
    CountsTaken-count c.args.substitutions.now c.args.label.now c.clear.new.self c.args.column c.requires.substitutions c.loop-count.self c.take_count.new.self c.loop-count.count
    c.take_count.ensures.grows c.take_count.ensures.sound c.take_count.ensures.taken c.loop-count.invariant

pub take_count-requires-clause-places : goal.take_count-requires-clause-places
take_count-requires-clause-places c = ap (λ s. s.places) (c.loop-count.invariant.grows.size ∙ c.clear.ensures.size) ∙ c.requires.places

pub returns-clause-size : goal.returns-clause-size
returns-clause-size c = c.loop-count.invariant.grows.size ∙ c.clear.ensures.size

pub returns-clause-right : goal.returns-clause-right
returns-clause-right c =
    let upto : c.loop-count.count ≡ min c.args.longest c.args.column + 1 = omega (arith, c.min-count-end.ensures, c.loop-count-test.false, c.loop-count.auto.count-end, c.loop-count.auto.count) in
    let right = IsRight-grows c.args.substitutions.now c.args.label.now c.clear.new.self c.loop-count.self c.args.column c.requires.some c.loop-count.invariant.grows
    (IsRight-cleared c.args.substitutions.now c.args.label.now c.args.self.now c.clear.new.self c.args.column c.clear.ensures.clears c.requires.some c.requires.right) in
    IsRight-step c.args.substitutions.now c.args.label.now c.loop-count.self c.args.column c.requires.substitutions c.requires.some c.requires.within right c.loop-count.invariant.sound
    (CountsTaken-all c.args.substitutions.now c.args.label.now c.clear.new.self c.args.column c.requires.substitutions c.loop-count.self c.args.longest c.loop-count.count upto c.requires.longest c.loop-count.invariant)
