use Rattle.std.proofs.Common.{◌≡◌, ◌<◌, ◌^◌, take, true}
use Rattle.std.specs.List.{list_all}
use Rattle.std.specs.Str.Parse.{digits_value}
use Rattle.idn_text.specs.Points.{is_hex_digit}
use Rattle.idn_text.proofs.point.hex_point.Given as goal

-- the digits so far are hexadecimal, and the value is what they write
abbrev pub invariant-loop-digit : goal.invariant-loop-digit
invariant-loop-digit l = record {
  value : l.value ≡ digits_value 16 (take l.digit-index l.digits);
  digits : list_all is_hex_digit (take l.digit-index l.digits) ≡ true;
  small : l.value < 16 ^ l.digit-index;
}
