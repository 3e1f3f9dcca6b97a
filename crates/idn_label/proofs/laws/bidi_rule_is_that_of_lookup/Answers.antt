use Rattle.idn_label.proofs.KitBidiRule.{one_label}
use Rattle.idn_label.proofs.laws.bidi_rule_is_that_of_lookup.Goals as goal

pub returns : goal.returns
returns c = one_label
