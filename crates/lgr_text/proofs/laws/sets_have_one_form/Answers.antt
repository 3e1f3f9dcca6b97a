use Rattle.lgr_text.proofs.OneFormLemmas.{one-form}
use Rattle.lgr_text.proofs.laws.sets_have_one_form.Goals as goal

pub returns : goal.returns
returns c = λ these those apart other same. one-form these those 0 0 apart other same
