use Rattle.idn_text.proofs.HistoryLemmas.{lines-ended}
use Rattle.idn_text.proofs.laws.ended_reading_has_all_lines.Goals as goal

pub returns : goal.returns
returns c = lines-ended
