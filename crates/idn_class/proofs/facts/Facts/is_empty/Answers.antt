use Rattle.std.proofs.Common.{bit_and, eqb-true, eq-eqb}
use Rattle.idn_class.specs.Facts.{contains}
use Rattle.idn_class.proofs.FactLemmas.{none-from_bits, bits-from_none}
use Rattle.idn_class.proofs.facts.Facts.is_empty.Goals as goal

pub returns : goal.returns
unfolding contains
returns c = (λ is. none-from_bits c.args.self.absent (eqb-true (bit_and c.args.self.absent 127) 127 is), λ none. eq-eqb (bit_and c.args.self.absent 127) 127 (bits-from_none c.args.self.absent none))
