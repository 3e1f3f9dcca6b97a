use Rattle.label_patterns.proofs.LawLemmas.{parts}
use Rattle.label_patterns.proofs.laws.matches_are_parts.Goals as goal

pub returns : goal.returns
returns c = parts
