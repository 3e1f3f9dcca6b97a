use Rattle.valid_labels.proofs.ReadingLists.{readings-are-told}
use Rattle.valid_labels.proofs.laws.readings_are_told.Goals as goal

pub returns : goal.returns
returns c = readings-are-told
