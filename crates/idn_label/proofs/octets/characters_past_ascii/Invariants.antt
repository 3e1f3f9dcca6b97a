use Rattle.std.proofs.Common.{◌-◌, length}
use Rattle.idn_label.proofs.OctetLemmas.{IsReadTo}
use Rattle.idn_label.proofs.octets.characters_past_ascii.Given as goal

abbrev pub invariant-loop-at : goal.invariant-loop-at
invariant-loop-at l = IsReadTo l.text l.at

abbrev pub decreases-loop-at : goal.decreases-loop-at
decreases-loop-at l = length l.text - l.at
