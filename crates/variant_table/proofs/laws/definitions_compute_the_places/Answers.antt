use Rattle.std.proofs.Common.{refl}
use Rattle.idn_text.specs.Points.{point_of_hex}
use Rattle.ruleset_text.specs.Definitions.{all_atoms}
use Rattle.ruleset_text.specs.EntrySteps.{entry_read}
use Rattle.ruleset_text.specs.Names.{number_of}
use Rattle.variant_table.specs.FaultyLines.{faulty_line}
use Rattle.variant_table.proofs.PlaceExampleLemmas.{point_told, range_told, set_told}
use Rattle.variant_table.proofs.laws.definitions_compute_the_places.Goals as goal

pub returns : goal.returns
unfolding point_of_hex entry_read all_atoms number_of faulty_line
returns c = record {
  bar = refl;
  ends = refl;
  word = refl;
  range = refl;
  falling = refl;
  source = refl;
  marks = refl;
  set = refl;
  rule = refl;
  rule_ends = refl;
  keyword = refl;
  unknown = refl;
  same_name = refl;
  stars = refl;
  groups = refl;
  no_version = refl;
  variant = refl;
  again = refl;
  ninth = refl;
  seventeenth = refl;
  sixteen = refl;
  long_line = refl;
  in_range = range_told;
  point = point_told;
  set_point = set_told;
  unknown_type = refl;
  unknown_rule = refl;
  no_definition = refl;
}
