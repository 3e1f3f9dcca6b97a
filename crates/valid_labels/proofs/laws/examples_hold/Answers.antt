use Rattle.std.proofs.Common.{refl}
use Rattle.variant_dispositions.specs.Kinds.{kinds_in}
use Rattle.valid_labels.proofs.laws.examples_hold.Goals as goal

pub returns : goal.returns
unfolding kinds_in
returns c = record {
  sign = refl;
  sign_after_nukta = refl;
  sign_after_sign = refl;
  sign_after_sign_made = refl;
  sign_after_sign_dead = refl;
  no_source = refl;
  lead = refl;
  lead_at_end = refl;
  lead_not_dead = refl;
  between = refl;
  not_between = refl;
  hyphen = refl;
  hyphen_third = refl;
  hyphen_fourth = refl;
  hyphen_third_dead = refl;
  hyphen_last_not_dead = refl;
  one_kind = refl;
  two_kinds = refl;
  two_kinds_dead = refl;
  ends_in_a = refl;
  ends_in_b = refl;
  ends_in_b_not_dead = refl;
  has_a = refl;
  has_none = refl;
  syllable = refl;
  no_syllable = refl;
  held = refl;
  not_held = refl;
  variant_in_place = refl;
  variant_out_of_place = refl;
  variant_dead = refl;
  lone_variant = refl;
  lone_variant_dead = refl;
  longest_first = refl;
  longest_first_made = refl;
  longest_first_cause = refl;
  longest_first_variant = refl;
  longest_that_stands = refl;
  longest_at_end = refl;
  longest_within = refl;
  shorter_fails = refl;
  shorter_fails_first = refl;
  longer_stands = refl;
  longer_after_it = refl;
  invalid_longest = refl;
  invalid_variant = refl;
  sign_after_vowel = refl;
  consonant_after_vowel = refl;
  two_leads = refl;
  two_kinds_made = refl;
  two_a = refl;
  two_a_dead = refl;
  invalid_arises = refl;
  invalid_at_end = refl;
  invalid_made = refl;
  half_before_ya = refl;
  half_before_ka = refl;
  half_before_ka_made = refl;
  ra_alone = refl;
  covered_variant = refl;
  covered_variant_asked = refl;
  no_pair = refl;
  one_pair = refl;
  b_after_c_dead = refl;
  b_after_a_not_dead = refl;
}
