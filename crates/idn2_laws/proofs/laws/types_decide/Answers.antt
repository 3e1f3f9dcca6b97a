use Rattle.std.proofs.Common.{refl}
use Rattle.ruleset_text.specs.Names.{number_of}
use Rattle.variant_dispositions.specs.Kinds.{kinds_in}
use Rattle.idn2_laws.proofs.laws.types_decide.Goals as goal

pub returns-clause-chinese : goal.returns-clause-chinese
unfolding kinds_in number_of
returns-clause-chinese c = record {
  pure = refl;
  mixture_of_pure = refl;
  other_mixture_of_pure = refl;
  other_pure = refl;
  mixture = refl;
  pure_of_mixture = refl;
  other_mixture = refl;
  with_one = refl;
}

pub returns-clause-unclear : goal.returns-clause-unclear
unfolding kinds_in
returns-clause-unclear c = record {
  unclear = refl;
  one_way = refl;
  itself = refl;
  in_version_two = refl;
  blocked_in_version_two = refl;
  clear = refl;
  untyped = refl;
  one_disposition = refl;
}

pub returns-clause-actions : goal.returns-clause-actions
unfolding kinds_in number_of
returns-clause-actions c = record { blocked = refl; allocatable = refl }
