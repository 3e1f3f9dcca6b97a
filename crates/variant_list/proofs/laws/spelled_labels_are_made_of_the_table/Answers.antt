use Rattle.variant_list.proofs.SpellingLemmas.{Spells-made}
use Rattle.variant_list.proofs.laws.spelled_labels_are_made_of_the_table.Goals as goal

pub returns : goal.returns
returns c = Spells-made
