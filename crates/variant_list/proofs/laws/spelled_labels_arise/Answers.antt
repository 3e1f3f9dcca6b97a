use Rattle.variant_list.proofs.ArisingLemmas.{Arises-spelled, unasked-Arises}
use Rattle.variant_list.proofs.laws.spelled_labels_arise.Goals as goal

pub returns : goal.returns
returns c = record { arises = Arises-spelled; computes = unasked-Arises }
