use Rattle.idn_text.proofs.LawLemmas.{ended_lines-then_rest}
use Rattle.idn_text.proofs.laws.ended_lines_are_those_before_the_rest.Goals as goal

pub returns : goal.returns
returns c = ended_lines-then_rest
