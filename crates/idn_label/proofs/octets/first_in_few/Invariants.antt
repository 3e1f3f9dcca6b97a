use Rattle.idn_label.proofs.OctetLemmas.{AreAscii}
use Rattle.idn_label.proofs.octets.first_in_few.Given as goal

abbrev pub invariant-loop-at : goal.invariant-loop-at
invariant-loop-at l = AreAscii l.text l.start l.at
