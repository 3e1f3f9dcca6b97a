use Rattle.std.proofs.Common.{◌≡◌, ◌+◌, ap, arith, sym, subst, ◌∙◌, length}
use Rattle.reading_kinds.specs.inner.Cells.{HasColumns}
use Rattle.reading_kinds.proofs.CutLemmas.{AllFit-of, HasColumns-by}
use Rattle.reading_kinds.proofs.readings.Readings.new.Goals as goal

pub invariant_of-result : goal.invariant_of-result
invariant_of-result c =
    let fit = AllFit-of c.args.substitutions c.requires.substitutions in
    let columns : c.begin.new.self.size.columns ≡ c.min.result + 1 = ap (λ s. s.columns) (c.begin.ensures.size ∙ c.in_ok-board.ensures) in
    let places : c.begin.new.self.size.places ≡ c.len-places.result + 1 = ap (λ s. s.places) (c.begin.ensures.size ∙ c.in_ok-board.ensures) in (
      c.requires.substitutions,
      c.requires.short,
      omega arith,
      c.begin.ensures.right c.args.substitutions _ fit,
      HasColumns-by c.args.substitutions fit c.longest.result c.longest.ensures c.len-places.result c.saturating_mul-longest.result c.begin.new.self.size.columns c.len-places.ensures c.saturating_mul-longest.ensures (omega (arith, columns, c.min.ensures)),
      places ∙ ap (λ n. n + 1) c.len-places.ensures,
    )
