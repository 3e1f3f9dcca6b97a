-- The examples of causes, computed.
use Rattle.std.proofs.Common.{refl}
use Rattle.std.specs.Fmt.{digits}
use Rattle.ruleset_text.specs.Canonical.{point_text}
use Rattle.idn2_laws.specs.CauseExamples.{ExamplesOfCauses}
use Rattle.idn2_refusals.specs.CauseParts.{a_label_parts, byte_text, label_parts}
use Rattle.idn2_refusals.specs.CauseWords.{action_words, cause_words, demand_words, label_words, length_words, place_words, rule_words}

pub examples_of_causes : ExamplesOfCauses
unfolding digits point_text label_parts a_label_parts byte_text cause_words label_words action_words place_words rule_words demand_words length_words
examples_of_causes = record {
  barred = refl;
  profile = refl;
  unassigned = refl;
  form = refl;
  first = refl;
  last = refl;
  fourth = refl;
  mark = refl;
  joiner = refl;
  arabic_indic = refl;
  extended = refl;
  bidi = refl;
  points = refl;
  octets = refl;
  no_code = refl;
  not_ascii = refl;
  no_punycode = refl;
  decoded = refl;
  in_a_name = refl;
  decoded_in_a_name = refl;
  copied_in_a_name = refl;
  length_of_a_label = refl;
  length_of_a_name = refl;
  outside = refl;
  misplaced = refl;
  no_entry = refl;
  broken = refl;
  unclear = refl;
  action_asking = refl;
  action_of_type = refl;
  action = refl;
  default_action = refl;
  byte = refl;
  long_line = refl;
  a_label = refl;
  no_a_label = refl;
  byte_order_mark = refl;
}
