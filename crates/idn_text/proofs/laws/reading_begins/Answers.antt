use Rattle.idn_text.proofs.ReadingLemmas.{has_read_nothing}
use Rattle.idn_text.proofs.laws.reading_begins.Goals as goal

pub returns : goal.returns
returns c = has_read_nothing
