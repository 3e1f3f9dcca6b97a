use Rattle.std.proofs.Common.{rules, tests, ◌==◌}
use Rattle.std.proofs.lemmas.Iterator.{YieldsList-from_slice}
use Rattle.std.proofs.lemmas.Iterator.Search.{position_from_yields_List}
use Rattle.ruleset_text.proofs.LexemeLemmas.{unwrap_place}
use Rattle.idn2_refusals.proofs.request.label_len.Goals as goal

pub returns-clause-place : goal.returns-clause-place
returns-clause-place c = unwrap_place (λ c. c == 9) c.args.points.now _ _ (position_from_yields_List (λ c. c == 9) _ _ c.position.result c.position.ensures.ran (YieldsList-from_slice c.args.points.now cc) (λ x b q k. search (rules, tests))) c.unwrap_or.ensures
