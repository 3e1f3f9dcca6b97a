use Rattle.std.proofs.Common.{rules, tests, not}
use Rattle.std.proofs.lemmas.Iterator.{YieldsList-from_slice}
use Rattle.std.proofs.lemmas.Iterator.Search.{position_from_yields_List}
use Rattle.ruleset_text.specs.Lexemes.{is_full_stop}
use Rattle.ruleset_text.proofs.LexemeLemmas.{unwrap_place}
use Rattle.ruleset_text.proofs.lexemes.stops_len.Goals as goal

pub returns-clause-place : goal.returns-clause-place
returns-clause-place c = unwrap_place (λ c. not (is_full_stop c)) c.args.text.now _ _ (position_from_yields_List (λ c. not (is_full_stop c)) _ _ c.position.result c.position.ensures.ran (YieldsList-from_slice c.args.text.now cc) (λ x b q k. search (rules, tests))) c.unwrap_or.ensures
