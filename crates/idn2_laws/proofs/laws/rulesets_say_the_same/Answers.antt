use Rattle.idn2_laws.proofs.RulesetLaws.{rulesets-say-the-same}
use Rattle.idn2_laws.proofs.laws.rulesets_say_the_same.Goals as goal

pub returns : goal.returns
returns c = rulesets-say-the-same
