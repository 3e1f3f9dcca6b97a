use Rattle.idn_class.proofs.DeadPrefixes.{dead_exactly}
use Rattle.idn_class.proofs.laws.bidi_part_is_exact.Goals as goal

pub returns : goal.returns
returns c = dead_exactly
