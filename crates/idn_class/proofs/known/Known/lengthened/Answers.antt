use Rattle.std.proofs.Common.{sym, ◌∙◌}
use Rattle.idn_class.proofs.KnownLemmas.{IsKnown-longer}
use Rattle.idn_class.proofs.known.Known.lengthened.Goals as goal

pub returns : goal.returns
returns c = λ w h. IsKnown-longer c.args.properties w c.args.self c.args.c c.of-of_it.result c.joined-facts.result c.in_ok-direction.direction h c.of-of_it.ensures c.joined-facts.ensures (sym c.direction_with.ensures ∙ c.in_ok-direction.was)
