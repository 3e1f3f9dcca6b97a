use Rattle.std.proofs.Common.{◌≡◌, ◌+◌, ◌-◌, arith, subst, refl, ap, ◌∙◌, length}
use Rattle.reading_kinds.specs.inner.Cells.{IsRight}
use Rattle.reading_kinds.proofs.board.Board.fill.Goals as goal

pub loop-column-init : goal.loop-column-init
loop-column-init c =
    let same : c.args.kept ≡ c.args.kept + 1 - 1 = omega arith in
    (subst (λ n. IsRight c.args.substitutions.now c.args.label.now c.args.self.now n) same c.requires.right, refl)

pub loop-column-preserved : goal.loop-column-preserved
loop-column-preserved c =
    let same : c.loop-column.column ≡ c.loop-column.column + 1 - 1 = omega arith in
    (subst (λ n. IsRight c.args.substitutions.now c.args.label.now c.fill_column.new.self n) same c.fill_column.ensures.right, c.fill_column.ensures.size ∙ c.loop-column.invariant.1)

pub fill_column-requires-clause-places : goal.fill_column-requires-clause-places
fill_column-requires-clause-places c = ap (λ s. s.places) c.loop-column.invariant.1 ∙ c.requires.places

pub fill_column-requires-clause-right : goal.fill_column-requires-clause-right
fill_column-requires-clause-right c = c.loop-column.invariant.0

pub returns-clause-right : goal.returns-clause-right
returns-clause-right c =
    let same : c.loop-column.column - 1 ≡ length c.args.label.now = omega (arith, c.requires.kept, c.loop-column-test.false, c.loop-column.auto.column-end, c.loop-column.auto.column) in
    subst (λ n. IsRight c.args.substitutions.now c.args.label.now c.loop-column.self n) same c.loop-column.invariant.0
