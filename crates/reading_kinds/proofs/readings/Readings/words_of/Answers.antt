use Rattle.std.proofs.Common.{rules, ◌≡◌, ◌≤◌, length, take, arith, sym, ap, subst, ◌∙◌}
use Rattle.std.proofs.lemmas.Grind.{common_steps}
use Rattle.reading_kinds.specs.inner.Cells.{HasColumns}
use Rattle.reading_kinds.proofs.CutLemmas.{AllFit-of}
use Rattle.reading_kinds.proofs.WordsLemmas.{IsRight-kept, IsRight-stored}
use Rattle.reading_kinds.proofs.readings.Readings.words_of.Goals as goal

pub fill-requires-clause-substitutions : goal.fill-requires-clause-substitutions
fill-requires-clause-substitutions c = AllFit-of c.self.inside.substitutions c.self.invariant.0

pub words-requires-clause-substitutions : goal.words-requires-clause-substitutions
words-requires-clause-substitutions c = AllFit-of c.self.inside.substitutions c.self.invariant.0

pub fill-requires-clause-right : goal.fill-requires-clause-right
fill-requires-clause-right c =
    let within : c.shared_len-kept.result ≤ length (take c.self.inside.count c.self.inside.label) = first_of (search (rules, c.shared_len-kept.ensures.within_before), grind (arith, common_steps, c.shared_len-kept.ensures.within_before)) in
    let same : take c.shared_len-kept.result (take c.self.inside.count c.self.inside.label) ≡ take c.shared_len-kept.result c.args.label.now = first_of (search (rules, c.shared_len-kept.ensures.same), grind (arith, common_steps, c.shared_len-kept.ensures.same)) in
    IsRight-kept c.self.inside.substitutions c.self.inside.label c.args.label.now c.self.inside.board c.self.inside.count c.shared_len-kept.result c.self.invariant.3 within same

pub invariant_of-self : goal.invariant_of-self
invariant_of-self c = (c.self.invariant.0, c.self.invariant.1, c.requires, IsRight-stored c.self.inside.substitutions c.args.label.now c.copy_from_slice.new.self _ c.fill.new.self (search rules) c.fill.ensures.right, subst (λ s. HasColumns c.self.inside.substitutions s.columns) (sym c.fill.ensures.size) c.self.invariant.4, ap (λ s. s.places) c.fill.ensures.size ∙ c.self.invariant.5)
