-- The UTF-8 of a list of code points.
use Rattle.std.proofs.Common.{◌≡◌, ℕ, ◌+◌, ◌*◌, ◌/◌, ◌%◌, ◌≤◌, ◌<◌, List, [], ◌∷◌, ◌++◌, true, length, take, take_all, drop, get_or, refl, sym, ap, subst, ◌∙◌, length-append, length-drop, arith}
use Rattle.std.proofs.lemmas.List.{append-nil, take_more}
use Rattle.std.proofs.lemmas.Str.{encodes-append, encodes-IsAscii, length-encode, len_utf8_bounds, chars-encodes, IsUtf8-drop, IsCharBoundary-from_take}
use Rattle.std.proofs.lemmas.Str.Ascii.{All-from_ascii}
use Rattle.std.proofs.lemmas.Bool.{and_from, and_parts}
use Rattle.std.proofs.lemmas.Bool.Decides.{nat_tests}
use Rattle.std.specs.List.{AllByRecursion}
use Rattle.std.proofs.lemmas.List.Elements.{All-nil, All-push, All-weaker, recursion_from_All}
use Rattle.std.specs.Char.{encode_utf8}
use Rattle.std.specs.Str.{all_scalars, chars, IsUtf8, IsAscii, StartsWithNoChar}
use Rattle.idn_text.specs.Points.{is_scalar_value, IsScalarValue, AreScalarValues, IsUtf8Of, utf8_of}

-- the bytes of a code point past ASCII
pub encode_utf8-two : (c : ℕ) → 0x80 ≤ c → c < 0x800 → encode_utf8 c ≡ (0xC0 + c / 0x40) ∷ (0x80 + c % 0x40) ∷ []
unfolding encode_utf8
encode_utf8-two c low high = grind (arith, nat_tests)

pub encode_utf8-three : (c : ℕ) → 0x800 ≤ c → c < 0x1_0000 → encode_utf8 c ≡ (0xE0 + c / 0x1000) ∷ (0x80 + c / 0x40 % 0x40) ∷ (0x80 + c % 0x40) ∷ []
unfolding encode_utf8
encode_utf8-three c low high = grind (arith, nat_tests)

pub encode_utf8-four : (c : ℕ) → 0x1_0000 ≤ c → encode_utf8 c ≡ (0xF0 + c / 0x4_0000) ∷ (0x80 + c / 0x1000 % 0x40) ∷ (0x80 + c / 0x40 % 0x40) ∷ (0x80 + c % 0x40) ∷ []
unfolding encode_utf8
encode_utf8-four c low = grind (arith, nat_tests)

-- at most four bytes for each
pub length-utf8_of-le : (points : List ℕ) → length (utf8_of points) ≤ 4 * length points
length-utf8_of-le [] = omega arith
length-utf8_of-le (c ∷ cs) =
    let one = len_utf8_bounds c in
    let first = length-encode c in
    omega (arith, length-utf8_of-le cs, length-append (encode_utf8 c) (utf8_of cs), one.1, first)

-- one more code point
pub utf8_of_more : (points : List ℕ) (i : ℕ) → i < length points → utf8_of (take (i + 1) points) ≡ utf8_of (take i points) ++ encode_utf8 (get_or points i 0)
utf8_of_more points i within =
    ap utf8_of (take_more points i 0 within)
    ∙ encodes-append (take i points) (get_or points i 0 ∷ [])
    ∙ ap (λ bytes. utf8_of (take i points) ++ bytes) (append-nil (encode_utf8 (get_or points i 0)))

by_recursion : (points : List ℕ) → AllByRecursion IsScalarValue points → all_scalars points ≡ true
by_recursion [] h = refl
by_recursion (c ∷ cs) h = and_from (is_scalar_value c) (all_scalars cs) h.0 (by_recursion cs h.1)

-- scalar values, as std's test of a list has them
pub all_scalars-from_All : (points : List ℕ) → AreScalarValues points → all_scalars points ≡ true
all_scalars-from_All points all = by_recursion points (recursion_from_All IsScalarValue points all)

-- UTF-8 of scalar values is UTF-8 as std has it
pub IsUtf8-from_points : (bytes points : List ℕ) → IsUtf8Of bytes points → IsUtf8 bytes
IsUtf8-from_points bytes points is = (points, (all_scalars-from_All points is.scalar_values, is.encoded))

-- the bytes tell the list
pub points_from_utf8 : (bytes points : List ℕ) → IsUtf8Of bytes points → chars bytes ≡ points
points_from_utf8 bytes points is = ap chars (sym is.encoded) ∙ chars-encodes points (all_scalars-from_All points is.scalar_values)

-- ASCII is the UTF-8 of itself
pub ascii_points : (bytes : List ℕ) → IsAscii bytes → IsUtf8Of bytes bytes
ascii_points bytes ascii = record {
  scalar_values = All-weaker (λ b. b < 128) IsScalarValue small bytes (All-from_ascii bytes ascii);
  encoded = encodes-IsAscii bytes ascii;
}
  where
    small : (b : ℕ) → b < 128 → IsScalarValue b
    small b lt = grind (arith, nat_tests)

-- ---- what is read so far

pub utf8_nothing : IsUtf8Of [] []
utf8_nothing = record { scalar_values = All-nil IsScalarValue; encoded = refl }

pub utf8_character : (text points : List ℕ) (at next c : ℕ) → IsUtf8Of (take at text) points → take next text ≡ take at text ++ encode_utf8 c → IsScalarValue c → IsUtf8Of (take next text) (points ++ c ∷ [])
utf8_character text points at next c is read scalar = record {
  scalar_values = All-push IsScalarValue points c is.scalar_values scalar;
  encoded =
      encodes-append points (c ∷ [])
      ∙ ap (λ x. utf8_of points ++ x) (append-nil (encode_utf8 c))
      ∙ ap (λ x. x ++ encode_utf8 c) is.encoded
      ∙ sym read;
}

pub utf8_all : (text points : List ℕ) (at : ℕ) → length text ≤ at → IsUtf8Of (take at text) points → IsUtf8Of text points
utf8_all text points at all is = subst (λ (bytes : List ℕ). IsUtf8Of bytes points) (take_all at text all) is

-- no text goes on where no character begins
pub utf8_refused : (text points : List ℕ) (at : ℕ) → at < length text → IsUtf8Of (take at text) points → StartsWithNoChar (drop at text) → ¬ (IsUtf8 text)
utf8_refused text points at more is none utf8 =
    let rest = IsUtf8-drop text at utf8 (IsCharBoundary-from_take text at utf8 (omega arith) (IsUtf8-from_points (take at text) points is)) in
    begins rest.0 rest.1.0 rest.1.1
  where
    begins : (cs : List ℕ) → all_scalars cs ≡ true → utf8_of cs ≡ drop at text → ⊥
    begins [] scalars encoded = omega (arith, ap length encoded, length-drop at text)
    begins (c ∷ cs) scalars encoded = none c (utf8_of cs) (and_parts (is_scalar_value c) (all_scalars cs) scalars).0 (sym encoded)
