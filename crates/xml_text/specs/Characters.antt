-- The characters of a text: UTF-8 (RFC 3629) of what XML 1.0 has as characters.
-- The number in brackets is its production.
use Rattle.std.specs.Prelude.{◌≡◌, ℕ, ◌<◌, true, false, ◌⊎◌, List, ◌++◌, length, take, drop, encode_utf8}
use Rattle.std.specs.List.{list_all}
use Rattle.std.specs.Str.{StartsWithNoChar}
use Rattle.idn_text.specs.Points.{IsUtf8Of}
use Rattle.xml_text.specs.References.{is_character}

-- the text is UTF-8 of such characters [2]
abbrev pub AreCharacters : List ℕ → Type 0
AreCharacters text = (points : List ℕ) × IsUtf8Of text points × (list_all is_character points ≡ true)

-- it begins with no character at all, or with another one
abbrev pub StartsWrong : List ℕ → Type 0
StartsWrong text =
    StartsWithNoChar text ⊎ ((c : ℕ) × (rest : List ℕ) × (text ≡ encode_utf8 c ++ rest) × (is_character c ≡ false))

-- such characters stand before the place, and none stands there
pub record IsWrongAt (text : List ℕ) (place : ℕ) : Type 0 where
  pub within : place < length text
  pub before : AreCharacters (take place text)
  pub wrong : StartsWrong (drop place text)
