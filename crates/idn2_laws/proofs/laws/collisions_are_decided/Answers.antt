use Rattle.std.proofs.Common.{refl}
use Rattle.ruleset_text.specs.Names.{number_of}
use Rattle.variant_dispositions.specs.Kinds.{kinds_in}
use Rattle.idn2_laws.proofs.laws.collisions_are_decided.Goals as goal

pub returns-clause-listings : goal.returns-clause-listings
unfolding kinds_in
returns-clause-listings c = record {
  sigma = refl;
  final_sigma_asked = refl;
  over_a_gap = refl;
  itself = refl;
  street = refl;
  house = refl;
  three = refl;
  neighbours = refl;
  both_steps = refl;
  one_step = refl;
  crossed = refl;
  blocked_back = refl;
  blocked_there = refl;
  longer_source = refl;
  shorter_source = refl;
  only_back = refl;
}

pub returns-clause-holders : goal.returns-clause-holders
unfolding kinds_in number_of
returns-clause-holders c = record {
  mixture_asked = refl;
  traditional_of_mixture = refl;
  pure_asked = refl;
  other_pure = refl;
}

pub returns-clause-relation : goal.returns-clause-relation
unfolding kinds_in
returns-clause-relation c = record {
  out_of_repertoire_there = refl;
  demand = refl;
  no_sources = refl;
  out_of_place = refl;
  hyphen_out_of_place = refl;
  not_registrable = refl;
  registrable = refl;
}
