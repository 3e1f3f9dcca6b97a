use Rattle.std.proofs.Common.{rules, tests}
use Rattle.std.proofs.lemmas.Iterator.{YieldsList-from_slice}
use Rattle.std.proofs.lemmas.Iterator.Search.{position_from_yields_List}
use Rattle.lgr_text.proofs.WordLemmas.{unwrap_place}
use Rattle.lgr_text.proofs.words.word_len.Goals as goal
use Rattle.xml_text.specs.Names.{is_blank}

pub returns-clause-place : goal.returns-clause-place
returns-clause-place c = unwrap_place is_blank c.args.text.now _ _ (position_from_yields_List is_blank _ _ c.position.result c.position.ensures.ran (YieldsList-from_slice c.args.text.now cc) (λ x b q k. search (rules, tests))) c.unwrap_or.ensures
