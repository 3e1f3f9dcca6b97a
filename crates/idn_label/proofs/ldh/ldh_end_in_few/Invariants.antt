use Rattle.idn_label.proofs.LdhEndLemmas.{AreLdh}
use Rattle.idn_label.proofs.ldh.ldh_end_in_few.Given as goal

abbrev pub invariant-loop-at : goal.invariant-loop-at
invariant-loop-at l = AreLdh l.text l.start l.at
