use Rattle.std.proofs.Common.{refl}
use Rattle.std.specs.Fmt.{digits}
use Rattle.std.specs.Str.{is_utf8, chars}
use Rattle.variant_dispositions.specs.Kinds.{kinds_in}
use Rattle.idn2_laws.proofs.ExampleLemmas.{blocks, transcripts}
use Rattle.idn2_laws.proofs.laws.examples_hold.Goals as goal

pub returns-clause-run : goal.returns-clause-run
unfolding digits
returns-clause-run c = record {
  refused_line = refl;
  faulty_table = refl;
  write_fault = refl;
  checked = refl;
  ended = refl;
  stopped = refl;
  both = refl;
  tries_alone = refl;
  limit_first = refl;
  neither = refl;
  up_to_the_second = refl;
}

pub returns-clause-lines : goal.returns-clause-lines
unfolding is_utf8 chars
returns-clause-lines c = λ answer. record { too_long = refl; empty = refl; not_utf8 = refl }

pub returns-clause-blocks : goal.returns-clause-blocks
returns-clause-blocks c = blocks

pub returns-clause-refusals : goal.returns-clause-refusals
unfolding kinds_in
returns-clause-refusals c = record {
  sign = refl;
  sign_after_sign = refl;
  no_source = refl;
  lead_at_end = refl;
  hyphen_third = refl;
  hyphen_fourth = refl;
  two_kinds = refl;
  no_a = refl;
  half_letter = refl;
  other_half = refl;
  invalid = refl;
}

pub returns-clause-transcripts : goal.returns-clause-transcripts
returns-clause-transcripts c = transcripts

pub returns-clause-listings : goal.returns-clause-listings
unfolding kinds_in
returns-clause-listings c = record {
  one_kind_tested = refl;
  end_tested = refl;
  barred_not_tested = refl;
  sign_on_the_consonant = refl;
  vowel_in_its_place = refl;
  digits_of_one_kind = refl;
  not_at_the_end = refl;
  invalid_within_the_label = refl;
  after_a_in_a_variant = refl;
  variant_of_no_sources = refl;
  b_on_a = refl;
  invalid_range = refl;
  invalid_range_alone = refl;
}
