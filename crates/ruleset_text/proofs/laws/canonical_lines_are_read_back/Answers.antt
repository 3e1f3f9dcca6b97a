use Rattle.ruleset_text.proofs.DefinitionsBackLemmas.{definitions_back}
use Rattle.ruleset_text.proofs.laws.canonical_lines_are_read_back.Goals as goal

pub returns : goal.returns
returns c = definitions_back
