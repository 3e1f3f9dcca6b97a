use Rattle.std.proofs.Common.{ap, ◌∙◌, ◌==◌}
use Rattle.std.specs.Int.{bit_at}
use Rattle.std.proofs.lemmas.Nat.Bits.{shr_and_one}
use Rattle.idn_class.specs.Facts.{contains}
use Rattle.idn_class.proofs.facts.Facts.contains.Goals as goal

pub returns : goal.returns
unfolding contains
returns c = ap (λ n. n == 0) (shr_and_one c.args.self.absent c.place.result ∙ ap (bit_at c.args.self.absent) c.place.ensures.place)
