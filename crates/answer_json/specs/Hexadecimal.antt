-- Bytes and code points in hexadecimal digits, in upper case (RFC 4648, section 8).
use Rattle.std.specs.Prelude.{ℕ, ◌+◌, ◌/◌, ◌%◌, nat_lt, List, [], ◌∷◌, ◌++◌, codes, flat_map, if◌then◌else◌}
use Rattle.idn_text.specs.Points.{four_digits, hex_digit}

-- two digits for each byte
unfoldable pub hex_of_byte : ℕ → List ℕ
hex_of_byte byte = hex_digit (byte / 16 % 16) ∷ hex_digit (byte % 16) ∷ []

abbrev pub hex_of : List ℕ → List ℕ
hex_of bytes = flat_map hex_of_byte bytes

-- the digit that counts so many, unless only zeros would stand up to it
abbrev pub leading_digit : ℕ → ℕ → List ℕ
leading_digit point unit = if nat_lt point unit then [] else hex_digit (point / unit % 16) ∷ []

-- a code point as the Unicode Standard writes it (Appendix A): U+, and then at least four digits
unfoldable pub point_text : ℕ → List ℕ
point_text point =
    codes "U+"
    ++ (leading_digit point 0x10000000
    ++ (leading_digit point 0x1000000
    ++ (leading_digit point 0x100000 ++ (leading_digit point 0x10000 ++ four_digits point))))
