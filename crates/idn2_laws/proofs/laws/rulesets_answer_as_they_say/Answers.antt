use Rattle.idn2_answers.proofs.RulesetAnswers.{answers-as-text}
use Rattle.idn2_laws.proofs.laws.rulesets_answer_as_they_say.Goals as goal

pub returns : goal.returns
returns c = answers-as-text
