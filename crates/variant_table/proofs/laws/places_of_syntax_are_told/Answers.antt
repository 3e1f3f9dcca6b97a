use Rattle.variant_table.proofs.LinePlaceLemmas.{syntax_told}
use Rattle.variant_table.proofs.laws.places_of_syntax_are_told.Goals as goal

pub returns : goal.returns
returns c = syntax_told
