use Rattle.idn_text.proofs.LawLemmas.{raw_lines-joined}
use Rattle.idn_text.proofs.laws.joined_lines_are_the_lines.Goals as goal

pub returns : goal.returns
returns c = raw_lines-joined
