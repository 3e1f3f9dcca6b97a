use Rattle.idn_class.specs.Facts.{contains, place_of}
use Rattle.idn_class.proofs.FactLemmas.{bit_at_both}
use Rattle.idn_class.proofs.facts.Facts.joined.Goals as goal

pub returns : goal.returns
unfolding contains
returns c = λ fact. bit_at_both c.args.self.absent c.args.other.absent (place_of fact)
