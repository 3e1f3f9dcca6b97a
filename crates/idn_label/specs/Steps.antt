-- Parts of the definitions, by which the steps of the tests are said.
use Rattle.std.specs.Prelude.{ℕ, Bool, ◌||◌, ◌==◌, List, map, Ok}
use Rattle.std.specs.Char.{is_ascii_lowercase, is_ascii_digit, to_ascii_lowercase}
use Rattle.idna.specs.Validity.{has_ace_prefix}
use Rattle.idn_text.specs.Points.{utf8_of}
use Rattle.idn_label.specs.Answers.{Answer, and_then}

-- a lower-case ASCII letter, a digit or the hyphen
abbrev pub is_ldh_point : ℕ → Bool
is_ldh_point c = is_ascii_lowercase c || is_ascii_digit c || (c == 0x2D)

-- an answer of code points as their UTF-8 (RFC 3629)
abbrev pub in_utf8 : Answer → Answer
in_utf8 answer = and_then answer (λ points. Ok (utf8_of points))

-- with each ASCII capital put into lower case
abbrev pub lowercase : List ℕ → List ℕ
lowercase label = map to_ascii_lowercase label

-- a label begins with "xn--" in any ASCII case
abbrev pub begins_with_prefix : List ℕ → Bool
begins_with_prefix label = has_ace_prefix (lowercase label)
