use Rattle.std.proofs.Common.{◌≤◌, ◌-◌, length}
use Rattle.idn_label.proofs.OctetLemmas.{AreAscii}
use Rattle.idn_label.proofs.octets.first_in_chunks.Given as goal

abbrev pub invariant-loop-at : goal.invariant-loop-at
invariant-loop-at g l = record {
  order : l.start ≤ l.at;
  within : l.at ≤ length l.text;
  ascii : AreAscii l.text l.start l.at;
}

abbrev pub decreases-loop-at : goal.decreases-loop-at
decreases-loop-at g l = length l.text - l.at
