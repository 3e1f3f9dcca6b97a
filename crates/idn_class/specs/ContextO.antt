-- The rules for the other code points that need a context (RFC 5892, appendix A.3 to A.9), at each place of a label.
use Rattle.std.specs.Prelude.{◌≡◌, ℕ, Bool, true, false, ◌&&◌, nat_le, IsTrue, List, Any, Some, IsSomeAnd, slice_index}
use Rattle.std.specs.Prelude.{EachIndex}
use Rattle.ucd_script.specs.declared.Script.{Script}
use Rattle.ucd_script.specs.declared.Script.TheVariants.{Greek, Hebrew, Hiragana, Katakana, Han}
use Rattle.unicode.specs.Script.{script}
use Rattle.idn_class.specs.Neighbors.{before, after}

-- cp .in. ARABIC-INDIC DIGIT ZERO to NINE
abbrev pub is_arabic_digit : ℕ → Bool
is_arabic_digit c = nat_le 0x660 c && nat_le c 0x669

-- cp .in. EXTENDED ARABIC-INDIC DIGIT ZERO to NINE
abbrev pub is_extended_arabic_digit : ℕ → Bool
is_extended_arabic_digit c = nat_le 0x6F0 c && nat_le c 0x6F9

-- the scripts that let KATAKANA MIDDLE DOT stand
abbrev is_japanese_script : Script → Bool
is_japanese_script Hiragana = true
is_japanese_script Katakana = true
is_japanese_script Han = true
is_japanese_script _ = false

-- Script(cp) .in. {Hiragana, Katakana, Han}
unfoldable pub is_japanese : ℕ → Bool
is_japanese c = is_japanese_script (script c)

-- the rule of the code point at a place, where it has one
pub record OtherPasses (label : List ℕ) (place : ℕ) : Type 0 where
  -- A.3, MIDDLE DOT: between two l
  pub middle_dot : slice_index label place ≡ 0xB7 → (before label place ≡ Some 0x6C) × (after label place ≡ Some 0x6C)
  -- A.4, GREEK LOWER NUMERAL SIGN
  pub keraia : slice_index label place ≡ 0x375 → IsSomeAnd (after label place) (λ c. script c ≡ Greek)
  -- A.5, HEBREW PUNCTUATION GERESH
  pub geresh : slice_index label place ≡ 0x5F3 → IsSomeAnd (before label place) (λ c. script c ≡ Hebrew)
  -- A.6, HEBREW PUNCTUATION GERSHAYIM
  pub gershayim : slice_index label place ≡ 0x5F4 → IsSomeAnd (before label place) (λ c. script c ≡ Hebrew)
  -- A.7, KATAKANA MIDDLE DOT
  pub katakana_middle_dot : slice_index label place ≡ 0x30FB → Any (λ c. IsTrue (is_japanese c)) label
  -- A.8, ARABIC-INDIC DIGITS
  pub arabic_digit : IsTrue (is_arabic_digit (slice_index label place))
      → ¬ (Any (λ c. IsTrue (is_extended_arabic_digit c)) label)
  -- A.9, EXTENDED ARABIC-INDIC DIGITS
  pub extended_arabic_digit : IsTrue (is_extended_arabic_digit (slice_index label place))
      → ¬ (Any (λ c. IsTrue (is_arabic_digit c)) label)

-- each code point of the label that has a rule meets it
abbrev pub PassesContextO : List ℕ → Type 0
PassesContextO label = EachIndex label (OtherPasses label)
