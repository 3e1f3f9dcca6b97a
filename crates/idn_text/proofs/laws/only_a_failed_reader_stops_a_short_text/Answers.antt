use Rattle.idn_text.proofs.HistoryLemmas.{never_stopped}
use Rattle.idn_text.proofs.laws.only_a_failed_reader_stops_a_short_text.Goals as goal

pub returns : goal.returns
returns c = never_stopped
