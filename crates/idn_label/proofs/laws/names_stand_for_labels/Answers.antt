use Rattle.idn_label.proofs.OldNameLemmas.{IsOld-faultless, named_again, old_fault-IsOld, stands_for-name, stands_for-registrable}
use Rattle.idn_label.proofs.laws.names_stand_for_labels.Goals as goal

pub returns : goal.returns
returns c = record {
  old = λ label. (IsOld-faultless label, old_fault-IsOld label);
  named = named_again;
  registrable = stands_for-registrable;
  past_ascii = stands_for-name;
}
