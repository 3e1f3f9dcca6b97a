use Rattle.valid_labels.proofs.CauseLawLemmas.{cause-is-exact}
use Rattle.valid_labels.proofs.laws.cause_is_exact.Goals as goal

pub returns : goal.returns
returns c = cause-is-exact
