use Rattle.idn_label.proofs.BidiNames.{decode_answer-a_label}
use Rattle.idn_label.proofs.laws.registered_labels_are_decoded.Goals as goal

pub returns : goal.returns
returns c = decode_answer-a_label
