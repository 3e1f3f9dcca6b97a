use Rattle.idn_class.proofs.ContextJTests.{contextj_ok-PassesContextJ}
use Rattle.idn_class.proofs.ContextOTests.{contexto_ok-PassesContextO}
use Rattle.idn_class.proofs.BidiTests.{bidi_ok-PassesBidiRule, meets_six_conditions-MeetsSixConditions}
use Rattle.idn_class.proofs.laws.tests_are_rules.Goals as goal

pub returns-clause-joiners : goal.returns-clause-joiners
returns-clause-joiners c = contextj_ok-PassesContextJ

pub returns-clause-others : goal.returns-clause-others
returns-clause-others c = contexto_ok-PassesContextO

pub returns-clause-bidi : goal.returns-clause-bidi
returns-clause-bidi c = bidi_ok-PassesBidiRule

pub returns-clause-conditions : goal.returns-clause-conditions
returns-clause-conditions c = meets_six_conditions-MeetsSixConditions
