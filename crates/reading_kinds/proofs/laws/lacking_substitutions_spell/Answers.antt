use Rattle.reading_kinds.proofs.LawLemmas.{LackingSpell-holds}
use Rattle.reading_kinds.proofs.laws.lacking_substitutions_spell.Goals as goal

pub returns : goal.returns
returns c = LackingSpell-holds
