use Rattle.idn_label.proofs.ExampleLemmas.{HaveALabels-a_labels, HaveFirstFaults-first_faults, HaveFirstFaults-first_faults_of_two, HaveRegisterAnswers-register_answers, HaveDecodeAnswers-decode_answers, HaveLookupAnswers-lookup_answers, HaveLabelsNamed-labels_named, HaveOldFaults-old_faults}
use Rattle.idn_label.proofs.laws.definitions_give_the_examples.Goals as goal

pub returns : goal.returns
returns c =
    record {
      a_labels = HaveALabels-a_labels;
      first_faults = HaveFirstFaults-first_faults;
      first_faults_of_two = HaveFirstFaults-first_faults_of_two;
      register_answers = HaveRegisterAnswers-register_answers;
      decode_answers = HaveDecodeAnswers-decode_answers;
      lookup_answers = HaveLookupAnswers-lookup_answers;
      labels_named = HaveLabelsNamed-labels_named;
      old_faults = HaveOldFaults-old_faults;
    }
