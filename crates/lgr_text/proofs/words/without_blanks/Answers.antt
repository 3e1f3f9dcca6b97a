use Rattle.std.proofs.Common.{rules, tests, ap, drop, not, ◌∙◌}
use Rattle.std.proofs.lemmas.List.{take_rest}
use Rattle.std.proofs.lemmas.Iterator.{YieldsList-from_slice}
use Rattle.std.proofs.lemmas.Iterator.Search.{position_from_yields_List}
use Rattle.lgr_text.proofs.WordLemmas.{unwrap_place}
use Rattle.lgr_text.proofs.words.without_blanks.Goals as goal
use Rattle.xml_text.specs.Names.{is_blank}

pub returns-clause-is : goal.returns-clause-is
returns-clause-is c =
    let place = unwrap_place (λ b. not (is_blank b)) c.args.text.now _ _ (position_from_yields_List (λ b. not (is_blank b)) _ _ c.position.result c.position.ensures.ran (YieldsList-from_slice c.args.text.now cc) (λ x b q k. search (rules, tests))) c.unwrap_or-start.ensures in
    take_rest c.args.text.now c.unwrap_or-start.result ∙ ap (λ n. drop n c.args.text.now) place
