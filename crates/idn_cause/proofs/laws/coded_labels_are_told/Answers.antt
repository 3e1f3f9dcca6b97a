use Rattle.idn_cause.proofs.CodedSteps.{coded_label-is}
use Rattle.idn_cause.proofs.laws.coded_labels_are_told.Goals as goal

pub returns : goal.returns
returns c = record { exactly = coded_label-is }
