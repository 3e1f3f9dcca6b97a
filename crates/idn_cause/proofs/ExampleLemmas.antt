-- The causes, computed.
use Rattle.std.proofs.Common.{refl}
use Rattle.idn_class.specs.Causes.{broken_condition, broken_in_name, broken_in_rtl, broken_in_ltr}
use Rattle.idn_class.proofs.ComputedLabels.{rules}
use Rattle.idn_cause.specs.Causes.{cause_of}
use Rattle.idna.specs.Punycode.{decode, insert_all, read_integer, digit_value}
use Rattle.idn_label.specs.Register.{decoded_code}
use Rattle.idn_cause.specs.ALabelCauses.{a_label_cause}
use Rattle.idn_cause.specs.Examples.{HaveCauses, ExamplesOfALabels, ExamplesOfLengths, causes}

pub HaveCauses-causes : HaveCauses causes
unfolding rules cause_of broken_condition broken_in_name broken_in_rtl broken_in_ltr
HaveCauses-causes = (refl, (refl, (refl, (refl, (refl, (refl, (refl, (refl, (refl, (refl, (refl, (refl, (refl, (refl, (refl, (refl, (refl, (refl, (refl, (refl, (refl, (refl, (refl, (refl, (refl, (refl, (refl, (refl, (refl, (refl, tt))))))))))))))))))))))))))))))

pub examples_of_a_labels : ExamplesOfALabels
unfolding a_label_cause decoded_code decode insert_all read_integer digit_value
examples_of_a_labels = record { no_code = refl; not_ascii = refl; first_not_ascii = refl; no_punycode = refl }

pub examples_of_lengths : ExamplesOfLengths
examples_of_lengths = record { empty_label = refl; root_alone = refl; long_label = refl; first_label = refl; right = refl }
