use Rattle.std.proofs.Common.{◌≡◌, take, true, min}
use Rattle.std.specs.Char.{is_digit}
use Rattle.std.specs.List.{list_all}
use Rattle.std.specs.Str.Parse.{digits_value}
use Rattle.xml_text.proofs.reference.numbered.Given as goal

-- the digits so far are digits, and the value is what they write, or the end of all code points if that is more
abbrev pub invariant-loop-digit : goal.invariant-loop-digit
invariant-loop-digit l = record {
  value : l.value ≡ min (digits_value l.radix (take l.digit-index l.digits)) 0x110000;
  digits : list_all (λ b. is_digit b l.radix) (take l.digit-index l.digits) ≡ true;
}
