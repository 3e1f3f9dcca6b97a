use Rattle.std.proofs.Common.{◌∷◌, drop, sym, ap, ◌∙◌, arith}
use Rattle.lgr_text.specs.Words.{words}
use Rattle.lgr_text.proofs.WordLemmas.{no-word, first-word}
use Rattle.lgr_text.proofs.words.next_word.Goals as goal

pub returns-then-is_empty-clause-is : goal.returns-then-is_empty-clause-is
returns-then-is_empty-clause-is c = no-word c.args.text.now c.without_blanks-text.result.now c.without_blanks-text.ensures.is (grind arith)

pub returns-clause-is : goal.returns-clause-is
returns-clause-is c =
    let front = c.without_blanks-text.result.now in
    let n = c.word_len.result in
    (first-word c.args.text.now front n c.without_blanks-text.ensures.is (grind arith) c.word_len.ensures.place).0
    ∙ ap (λ w. w ∷ words (drop n front)) (sym c.split_at.ensures.front)
    ∙ ap (λ r. c.split_at.result.0.now ∷ words r) (sym c.split_at.ensures.back)

pub returns-clause-shorter : goal.returns-clause-shorter
returns-clause-shorter c =
    let first = first-word c.args.text.now c.without_blanks-text.result.now c.word_len.result c.without_blanks-text.ensures.is (grind arith) c.word_len.ensures.place in
    omega (arith, first.1)
