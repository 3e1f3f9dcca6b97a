use Rattle.ruleset_text.proofs.LineFaultLemmas.{first_is_told}
use Rattle.ruleset_text.proofs.laws.the_first_lexeme_is_told.Goals as goal

pub returns-clause-lexeme : goal.returns-clause-lexeme
returns-clause-lexeme c = λ f ws place. first_is_told f ws place

pub returns-clause-word : goal.returns-clause-word
returns-clause-word c = λ f words place. first_is_told f words place

pub returns-clause-point : goal.returns-clause-point
returns-clause-point c = λ f points place. first_is_told f points place
