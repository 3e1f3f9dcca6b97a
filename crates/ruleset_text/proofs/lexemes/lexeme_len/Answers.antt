use Rattle.std.proofs.Common.{◌≡◌, true, false, get_or, sym, ◌∙◌}
use Rattle.ruleset_text.specs.Lexemes.{is_mark, is_full_stop}
use Rattle.ruleset_text.proofs.LexemeLemmas.{stops-at, word-at}
use Rattle.ruleset_text.proofs.lexemes.lexeme_len.Goals as goal

pub returns-then-is_full_stop-clause-is : goal.returns-then-is_full_stop-clause-is
returns-then-is_full_stop-clause-is c =
    let stop : is_full_stop (get_or c.args.text.now 0 0) ≡ true = sym c.is_full_stop.ensures ∙ c.if-is_full_stop.true in
    (stops-at c.args.text.now c.stops_len.result c.requires.some stop c.stops_len.ensures.place).0

pub returns-then-is_full_stop-clause-some : goal.returns-then-is_full_stop-clause-some
returns-then-is_full_stop-clause-some c =
    let stop : is_full_stop (get_or c.args.text.now 0 0) ≡ true = sym c.is_full_stop.ensures ∙ c.if-is_full_stop.true in
    (stops-at c.args.text.now c.stops_len.result c.requires.some stop c.stops_len.ensures.place).1

pub returns-else-is_full_stop-clause-is : goal.returns-else-is_full_stop-clause-is
returns-else-is_full_stop-clause-is c =
    let mark : is_mark (get_or c.args.text.now 0 0) ≡ false = sym c.is_mark.ensures ∙ c.if-is_mark.false in
    let stop : is_full_stop (get_or c.args.text.now 0 0) ≡ false = sym c.is_full_stop.ensures ∙ c.if-is_full_stop.false in
    (word-at c.args.text.now c.word_len.result c.requires.some c.requires.front mark stop c.word_len.ensures.place).0

pub returns-else-is_full_stop-clause-some : goal.returns-else-is_full_stop-clause-some
returns-else-is_full_stop-clause-some c =
    let mark : is_mark (get_or c.args.text.now 0 0) ≡ false = sym c.is_mark.ensures ∙ c.if-is_mark.false in
    let stop : is_full_stop (get_or c.args.text.now 0 0) ≡ false = sym c.is_full_stop.ensures ∙ c.if-is_full_stop.false in
    (word-at c.args.text.now c.word_len.result c.requires.some c.requires.front mark stop c.word_len.ensures.place).1
