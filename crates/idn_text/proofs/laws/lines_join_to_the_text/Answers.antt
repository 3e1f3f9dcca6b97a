use Rattle.idn_text.proofs.LawLemmas.{raw_lines-no_feed, joined-raw_lines}
use Rattle.idn_text.proofs.laws.lines_join_to_the_text.Goals as goal

pub returns : goal.returns
returns c = record { no_feed = raw_lines-no_feed; joined = joined-raw_lines }
