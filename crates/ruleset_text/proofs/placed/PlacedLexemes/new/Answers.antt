use Rattle.ruleset_text.proofs.PlacedLemmas.{placed-length}
use Rattle.ruleset_text.proofs.placed.PlacedLexemes.new.Goals as goal

pub returns-clause-few : goal.returns-clause-few
returns-clause-few c = placed-length 0 c.args.line.now
