use Rattle.variant_list.proofs.ReadingLemmas.{readings_agree}
use Rattle.variant_list.proofs.laws.readings_agree.Goals as goal

pub returns : goal.returns
returns c = readings_agree
