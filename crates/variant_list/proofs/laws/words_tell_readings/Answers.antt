use Rattle.variant_list.proofs.ReadingLemmas.{words_tell_readings}
use Rattle.variant_list.proofs.laws.words_tell_readings.Goals as goal

pub returns : goal.returns
returns c = words_tell_readings
