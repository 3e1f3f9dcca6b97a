use Rattle.idn_label.proofs.KitBidiRule.{name_rule}
use Rattle.idn_label.proofs.laws.bidi_rule_of_a_name_is_that_of_the_standard.Goals as goal

pub returns : goal.returns
returns c = name_rule
