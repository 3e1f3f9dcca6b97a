-- Code points and their UTF-8 (RFC 3629).
use Rattle.std.specs.Prelude.{◌≡◌, ℕ, ◌+◌, ◌/◌, ◌%◌, Bool, true, ◌&&◌, nat_lt, nat_le, IsTrue, List, [], ◌∷◌, length}
use Rattle.std.specs.Prelude.{Option, Some, None, if◌then◌else◌, All, encode_utf8_all}
use Rattle.std.specs.Char.{is_digit}
use Rattle.std.specs.List.{list_all}
use Rattle.std.specs.Str.Parse.{digits_value}

-- a Unicode scalar value: a code point that is no surrogate (RFC 3629 section 3)
abbrev pub is_scalar_value : ℕ → Bool
is_scalar_value c = if nat_lt c 0xD800 then true else nat_le 0xE000 c && nat_lt c 0x110000

-- this number is one (RFC 3629 section 3)
abbrev pub IsScalarValue : ℕ → Type 0
IsScalarValue c = IsTrue (is_scalar_value c)

-- each of these numbers is a scalar value
abbrev pub AreScalarValues : List ℕ → Type 0
AreScalarValues points = All IsScalarValue points

-- the UTF-8 of a list of scalar values, one after another (RFC 3629 section 3)
abbrev pub utf8_of : List ℕ → List ℕ
utf8_of points = encode_utf8_all points

-- these bytes are the UTF-8 of these scalar values
pub record IsUtf8Of (bytes points : List ℕ) : Type 0 where
  pub scalar_values : AreScalarValues points
  pub encoded : utf8_of points ≡ bytes

-- a hexadecimal digit, in either case
abbrev pub is_hex_digit : ℕ → Bool
is_hex_digit c = is_digit c 16

-- four to six of them
abbrev pub is_hex_text : List ℕ → Bool
is_hex_text digits = nat_le 4 (length digits) && nat_le (length digits) 6 && list_all is_hex_digit digits

-- the scalar value that such digits write
unfoldable pub point_of_hex : List ℕ → Option ℕ
point_of_hex digits =
    if is_hex_text digits && is_scalar_value (digits_value 16 digits) then Some (digits_value 16 digits) else None

-- the digit of a number below 16, in upper case (RFC 4648, section 8): 0 to 9, A to F
abbrev pub hex_digit : ℕ → ℕ
hex_digit d = if nat_lt d 10 then 48 + d else 55 + d

-- the last four digits
abbrev pub four_digits : ℕ → List ℕ
four_digits c = hex_digit (c / 4096 % 16) ∷ hex_digit (c / 256 % 16) ∷ hex_digit (c / 16 % 16) ∷ hex_digit (c % 16) ∷ []
