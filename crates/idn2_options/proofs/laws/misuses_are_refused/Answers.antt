use Rattle.idn2_options.proofs.CauseLemmas.{cause-refused, misuse-refused, misuse-used}
use Rattle.idn2_options.proofs.laws.misuses_are_refused.Goals as goal

pub returns : goal.returns
returns c = record { refused = misuse-refused; used = misuse-used; told = cause-refused }
