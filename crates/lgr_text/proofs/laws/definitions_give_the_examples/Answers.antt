use Rattle.std.proofs.Common.{refl}
use Rattle.idn_text.specs.Points.{point_of_hex}
use Rattle.lgr_text.specs.Elements.{each_element, every_element}
use Rattle.lgr_text.specs.Values.{number}
use Rattle.lgr_text.proofs.laws.definitions_give_the_examples.Goals as goal

pub returns-clause-spans : goal.returns-clause-spans
unfolding point_of_hex
returns-clause-spans c = refl

pub returns-clause-no_spans : goal.returns-clause-no_spans
unfolding point_of_hex
returns-clause-no_spans c = (refl, refl, refl)

pub returns-clause-counts : goal.returns-clause-counts
unfolding number
returns-clause-counts c = (refl, refl, refl, refl, refl, refl)

pub returns-clause-entry : goal.returns-clause-entry
unfolding point_of_hex each_element every_element
returns-clause-entry c = refl

pub returns-clause-range : goal.returns-clause-range
unfolding point_of_hex each_element every_element
returns-clause-range c = refl

pub returns-clause-no_entry : goal.returns-clause-no_entry
unfolding point_of_hex each_element every_element
returns-clause-no_entry c = refl

pub returns-clause-action : goal.returns-clause-action
unfolding each_element every_element
returns-clause-action c = refl
