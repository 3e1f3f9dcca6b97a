use Rattle.std.proofs.Common.{refl}
use Rattle.idn_class.specs.declared.properties.Properties.TheVariants.{Unicode}
use Rattle.idn_class.specs.DeadPrefixes.{hopeless}
use Rattle.idn_class.specs.StandardRows.{classes_by_standard}
use Rattle.idn_class.proofs.ComputedLabels.{rules, in_table, HasClasses-rows_ok}
use Rattle.idn_class.proofs.laws.standard_rows.Goals as goal

pub returns-clause-classes : goal.returns-clause-classes
unfolding in_table
returns-clause-classes c = HasClasses-rows_ok Unicode classes_by_standard refl

pub returns-clause-joiners_met : goal.returns-clause-joiners_met
unfolding rules
returns-clause-joiners_met c = refl

pub returns-clause-joiners_broken : goal.returns-clause-joiners_broken
unfolding rules
returns-clause-joiners_broken c = refl

pub returns-clause-bidi_met : goal.returns-clause-bidi_met
unfolding rules
returns-clause-bidi_met c = refl

pub returns-clause-bidi_broken : goal.returns-clause-bidi_broken
unfolding rules
returns-clause-bidi_broken c = refl

pub returns-clause-dead : goal.returns-clause-dead
unfolding rules hopeless
returns-clause-dead c = refl

pub returns-clause-open : goal.returns-clause-open
unfolding rules hopeless
returns-clause-open c = refl
