use Rattle.std.proofs.Common.{refl}
use Rattle.idn_class.proofs.ComputedLabels.{rules}
use Rattle.idn_class.proofs.laws.bidi_rows.Goals as goal

pub returns-clause-classes_met : goal.returns-clause-classes_met
unfolding rules
returns-clause-classes_met c = refl

pub returns-clause-classes_broken : goal.returns-clause-classes_broken
unfolding rules
returns-clause-classes_broken c = refl

pub returns-clause-labels_met : goal.returns-clause-labels_met
unfolding rules
returns-clause-labels_met c = refl

pub returns-clause-labels_broken : goal.returns-clause-labels_broken
unfolding rules
returns-clause-labels_broken c = refl
