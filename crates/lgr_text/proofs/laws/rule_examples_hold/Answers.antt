use Rattle.std.proofs.Common.{refl}
use Rattle.idn_text.specs.Points.{point_of_hex}
use Rattle.lgr_text.specs.Classes.{class_of}
use Rattle.lgr_text.specs.Elements.{each_element, every_element}
use Rattle.lgr_text.specs.Parts.{part_of}
use Rattle.lgr_text.specs.Values.{number}
use Rattle.lgr_text.proofs.laws.rule_examples_hold.Goals as goal

pub returns-clause-classes : goal.returns-clause-classes
unfolding point_of_hex class_of each_element every_element
returns-clause-classes c = (refl, refl)

pub returns-clause-sets : goal.returns-clause-sets
unfolding class_of each_element every_element
returns-clause-sets c = (refl, refl, refl)

pub returns-clause-no_sets : goal.returns-clause-no_sets
unfolding class_of each_element every_element
returns-clause-no_sets c = (refl, refl, refl)

pub returns-clause-choice : goal.returns-clause-choice
unfolding point_of_hex number class_of part_of each_element every_element
returns-clause-choice c = refl

pub returns-clause-rules : goal.returns-clause-rules
unfolding point_of_hex class_of part_of each_element every_element
returns-clause-rules c = (refl, refl)

pub returns-clause-no_rules : goal.returns-clause-no_rules
unfolding point_of_hex class_of part_of each_element every_element
returns-clause-no_rules c = (refl, refl, refl, refl, refl)
