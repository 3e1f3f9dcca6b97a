use Rattle.idn_class.proofs.FactLemmas.{none-all}
use Rattle.idn_class.proofs.facts.Facts.none.Goals as goal

pub returns : goal.returns
returns c = none-all
