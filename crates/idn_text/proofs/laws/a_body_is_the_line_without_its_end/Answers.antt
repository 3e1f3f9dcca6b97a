use Rattle.idn_text.proofs.LawLemmas.{body_of-other, body_of-carriage_return, body_of-long}
use Rattle.idn_text.proofs.laws.a_body_is_the_line_without_its_end.Goals as goal

pub returns : goal.returns
returns c = record { kept = body_of-other; dropped = body_of-carriage_return; too_long = body_of-long }
