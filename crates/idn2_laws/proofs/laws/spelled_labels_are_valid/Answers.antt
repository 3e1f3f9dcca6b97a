use Rattle.valid_labels.proofs.NothingLemmas.{nothing-is-asked}
use Rattle.variant_list.proofs.SpellingLemmas.{Spells-made}
use Rattle.idn2_laws.proofs.laws.spelled_labels_are_valid.Goals as goal

pub returns : goal.returns
returns c = λ table label v sound nothing spells. nothing-is-asked.valid table v nothing (Spells-made table label v spells)
