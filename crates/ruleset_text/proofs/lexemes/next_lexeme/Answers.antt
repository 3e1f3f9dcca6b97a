use Rattle.std.proofs.Common.{◌∷◌, drop, sym, ap, ◌∙◌, arith}
use Rattle.ruleset_text.specs.Lexemes.{lexemes}
use Rattle.ruleset_text.proofs.LexemeLemmas.{front-blank, no-front, from-front}
use Rattle.ruleset_text.proofs.lexemes.next_lexeme.Goals as goal

pub returns-then-is_empty-clause-is : goal.returns-then-is_empty-clause-is
returns-then-is_empty-clause-is c = no-front c.args.line.now c.without_blanks-text.result.now c.without_blanks-text.ensures.is (grind arith)

pub lexeme_len-requires-clause-front : goal.lexeme_len-requires-clause-front
lexeme_len-requires-clause-front c = front-blank c.args.line.now c.without_blanks-text.result.now c.without_blanks-text.ensures.is (grind arith)

pub returns-clause-is : goal.returns-clause-is
returns-clause-is c =
    let text = c.without_blanks-text.result.now in
    let n = c.lexeme_len.result in
    from-front c.args.line.now text c.without_blanks-text.ensures.is
    ∙ c.lexeme_len.ensures.is
    ∙ ap (λ w. w ∷ lexemes (drop n text)) (sym c.split_at.ensures.front)
    ∙ ap (λ r. c.split_at.result.0.now ∷ lexemes r) (sym c.split_at.ensures.back)
