use Rattle.idn_cause.proofs.ALabelLaws.{a_label_cause-is, a_label_fault-has_cause}
use Rattle.idn_cause.proofs.ExampleLemmas.{examples_of_a_labels}
use Rattle.idn_cause.proofs.laws.a_label_causes_are_told.Goals as goal

pub returns : goal.returns
returns c = record { exactly = a_label_cause-is; always = a_label_fault-has_cause; examples = examples_of_a_labels }
