use Rattle.valid_labels.proofs.ItselfLemmas.{typeless-are-clear}
use Rattle.valid_labels.proofs.laws.typeless_are_clear.Goals as goal

pub returns : goal.returns
returns c = typeless-are-clear
