use Rattle.idn_class.proofs.BarringLemmas.{barring_line-is, barring_line-none, barring_line-unassigned}
use Rattle.idn_class.proofs.laws.barring_lines_are_told.Goals as goal

pub returns : goal.returns
returns c = record {
  line = barring_line-is;
  none = barring_line-none;
  unassigned = barring_line-unassigned;
}
