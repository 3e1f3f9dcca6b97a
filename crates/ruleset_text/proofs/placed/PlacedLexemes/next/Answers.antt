use Rattle.std.proofs.Common.{◌≡◌, ◌+◌, ◌-◌, ◌∷◌, length, ap, sym, ◌∙◌, arith}
use Rattle.ruleset_text.specs.PlacedLexemes.{placed_from}
use Rattle.ruleset_text.proofs.LexemeLemmas.{first_place}
use Rattle.ruleset_text.proofs.PlacedLemmas.{placed-next, placed-none, cut_length}
use Rattle.ruleset_text.proofs.placed.PlacedLexemes.next.Goals as goal

pub returns-in_err-lexeme : goal.returns-in_err-lexeme
returns-in_err-lexeme c = rw c.from_residual.ensures (sym c.self.view_is ∙ placed-none c.self.inside.before c.self.inside.rest.now c.in_err-lexeme.ensures.is)

pub overflow_sub-place-2 : goal.overflow_sub-place-2
overflow_sub-place-2 c = omega (arith, cut_length c.self.inside.rest.now c.in_ok-lexeme.lexeme.now c.in_ok-lexeme.others.now c.in_ok-lexeme.ensures.cut)

pub overflow_add-self : goal.overflow_add-self
overflow_add-self c = omega (arith, c.self.invariant, cut_length c.self.inside.rest.now c.in_ok-lexeme.lexeme.now c.in_ok-lexeme.others.now c.in_ok-lexeme.ensures.cut)

pub invariant_of-self : goal.invariant_of-self
invariant_of-self c = omega (arith, c.self.invariant, cut_length c.self.inside.rest.now c.in_ok-lexeme.lexeme.now c.in_ok-lexeme.others.now c.in_ok-lexeme.ensures.cut)

pub returns : goal.returns
returns c =
    let text = c.self.inside.rest.now in
    let w = c.in_ok-lexeme.lexeme.now in
    let others = c.in_ok-lexeme.others.now in
    let whole = cut_length text w others c.in_ok-lexeme.ensures.cut in
    let at : c.self.inside.before + first_place text ≡ c.self.inside.before + (length text - length others - length w) = omega (arith, whole) in
    sym c.self.view_is ∙ placed-next c.self.inside.before text w others c.in_ok-lexeme.ensures.cut c.in_ok-lexeme.ensures.is
    ∙ ap (λ n. record { place = n; lexeme = w } ∷ placed_from (n + length w) others) at
