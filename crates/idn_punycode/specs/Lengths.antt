-- Labels of which the UTF-8 alone tells that they are short enough.
use Rattle.std.specs.Prelude.{ℕ, ◌≤◌, List, ◌++◌, length, codes, encode_utf8_all}
use Rattle.idna.specs.Punycode.{encode}

-- each label of at most so many octets in UTF-8 has at most 63 code points,
-- and "xn--" and its Punycode at most 63 octets
abbrev pub AlwaysFits : ℕ → Type 0
AlwaysFits octets =
    (label : List ℕ) → length (encode_utf8_all label) ≤ octets
    → (length label ≤ 63) × (length (codes "xn--" ++ encode label) ≤ 63)
