use Rattle.std.proofs.Common.{refl}
use Rattle.ruleset_text.specs.Names.{number_of}
use Rattle.lgr_table.proofs.laws.definitions_compute_the_examples.Goals as goal

pub returns : goal.returns
unfolding number_of
returns c = record {
  predefined = refl;
  own = refl;
  untyped = refl;
  untyped_none = refl;
  unknown = refl;
  of_letter = refl;
  reflexive = refl;
  without_types = refl;
  range = refl;
  end_of_range = refl;
  no_label_has_it = refl;
  in_order = refl;
  staying = refl;
  untyped_beside_types = refl;
  without_any = refl;
  each_typed = refl;
  types_in_no_label = refl;
  nothing_in_a_label = refl;
}
