-- What the octets of a text tell of its characters, in UTF-8 (RFC 3629).
use Rattle.std.specs.Prelude.{◌≡◌, ◌<◌, ◌≤◌, ◌+◌, ◌-◌, ◌*◌, ◌==◌, ◌&&◌, ℕ, Bool, true, false, not, nat_le, List, ◌++◌}
use Rattle.std.specs.Prelude.{chars, encode_utf8, length, slice_index, take}
use Rattle.std.specs.List.{list_any, slice_range}
use Rattle.std.specs.Str.{IsAscii}
use Rattle.ucd_bidi.specs.BidiClass.{bidi_class}
use Rattle.idna.specs.BidiRule.{is_rtl}
use Rattle.idn_text.specs.Points.{IsScalarValue}
use Rattle.idn_class.specs.Facts.{contains}
use Rattle.idn_class.specs.declared.facts.Fact.TheVariants.{RightToLeft}
use Rattle.idn_class.specs.declared.facts.Facts.{Facts}
use Rattle.idn_label.specs.declared.octets.Characters.{Characters}
use Rattle.idn_label.specs.declared.octets.Characters.TheVariants.{Ascii, LeftToRight, Any}

-- the characters of a text are such
abbrev pub Describes : Characters → List ℕ → Type 0
Describes Ascii text = IsAscii text
Describes LeftToRight text = list_any (λ c. is_rtl (bidi_class c)) (chars text) ≡ false
Describes Any text = Unit {0}

-- a name of such characters has no R, AL or AN once it is decoded, if what its A-labels stand for has these facts
abbrev pub tell_left_to_right : Characters → Facts → Bool
tell_left_to_right Ascii facts = not (contains facts RightToLeft)
tell_left_to_right LeftToRight facts = not (contains facts RightToLeft)
tell_left_to_right Any facts = false

-- an octet of no character of ASCII
abbrev pub is_past_ascii : ℕ → Bool
is_past_ascii octet = nat_le 0x80 octet

-- octets of ASCII stand from one place of a text up to another, where none stands
pub record IsFirstPastAscii (text : List ℕ) (start at : ℕ) : Type 0 where
  pub reached : start ≤ at
  pub within : at < length text
  pub ascii : IsAscii (slice_range text start at)
  pub other : is_past_ascii (slice_index text at) ≡ true

-- one character stands from one place of a text up to another, and is none of R, AL and AN
pub record IsLeftToRightCharacter (text : List ℕ) (start «end» : ℕ) : Type 0 where
  pub further : start < «end»
  pub within : «end» ≤ length text
  pub character : ℕ
  pub scalar_value : IsScalarValue character
  pub read : take «end» text ≡ take start text ++ encode_utf8 character
  pub left_to_right : is_rtl (bidi_class character) ≡ false

-- an octet that is not the first of a character (RFC 3629, section 4: UTF8-tail)
abbrev pub is_tail : ℕ → Bool
is_tail octet = nat_le 0x80 octet && nat_le octet 0xBF

-- two octets that are a character past ASCII and before Hebrew, which begins at U+0590
abbrev pub are_left_to_right_two : ℕ → ℕ → Bool
are_left_to_right_two first second =
    nat_le 0xC2 first && is_tail second && nat_le ((first - 0xC0) * 0x40 + (second - 0x80)) 0x58F

-- three octets that are a character from Devanagari on and before the surrogates, but not the right-to-left mark
abbrev pub are_left_to_right_three : ℕ → ℕ → ℕ → Bool
are_left_to_right_three first second third =
    let c = ((first - 0xE0) * 0x40 + (second - 0x80)) * 0x40 + (third - 0x80) in
    nat_le 0xE0 first && is_tail second && is_tail third && nat_le 0x900 c && nat_le c 0xD7FF && not (c == 0x200F)
