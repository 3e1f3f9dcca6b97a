use Rattle.std.proofs.Common.{refl}
use Rattle.std.specs.Char.{encode_utf8}
use Rattle.idn_text.specs.Points.{point_of_hex}
use Rattle.idn_text.proofs.laws.definitions_compute_the_examples.Goals as goal

pub returns : goal.returns
unfolding encode_utf8 point_of_hex
returns c = record {
  lines = refl;
  ended = refl;
  utf8 = refl;
  hex = refl;
  six = refl;
  surrogate = refl;
  too_large = refl;
  three = refl;
  no_digit = refl;
}
