-- Bytes that are UTF-8, and their code points.
use Rattle.std.proofs.Common.{◌≡◌, ◌-◌, ℕ, List, [], ◌∷◌, Bool, true, false, chars, sym, subst}
use Rattle.std.proofs.lemmas.Bool.{and_parts}
use Rattle.std.specs.Str.{is_utf8, all_scalars, IsUtf8}
use Rattle.std.specs.List.{AllByRecursion}
use Rattle.std.proofs.lemmas.Str.{IsUtf8-from_is_utf8}
use Rattle.std.proofs.lemmas.List.Elements.{All-from_recursion}
use Rattle.idn_text.specs.Points.{is_scalar_value, IsScalarValue, IsUtf8Of, utf8_of}
use Rattle.idn_text.proofs.Utf8Lemmas.{points_from_utf8}

by_recursion : (points : List ℕ) → all_scalars points ≡ true → AllByRecursion IsScalarValue points
by_recursion [] e = tt
by_recursion (c ∷ cs) e = let parts = and_parts (is_scalar_value c) (all_scalars cs) e in (parts.0, by_recursion cs parts.1)

pub points_of : (bytes : List ℕ) → (is : IsUtf8 bytes) → IsUtf8Of bytes is.0
points_of bytes is = record { scalar_values = All-from_recursion IsScalarValue is.0 (by_recursion is.0 is.1.0); encoded = is.1.1 }

pub is_not_utf8 : (bytes : List ℕ) → ((points : List ℕ) → IsUtf8Of bytes points → ⊥) → (b : Bool) → is_utf8 bytes ≡ b → is_utf8 bytes ≡ false
is_not_utf8 bytes none true e = let is = IsUtf8-from_is_utf8 bytes e in absurd (none is.0 (points_of bytes is))
is_not_utf8 bytes none false e = e

-- of UTF-8 the characters are the code points
pub utf8-of_chars : (bytes : List ℕ) → is_utf8 bytes ≡ true → IsUtf8Of bytes (chars bytes)
utf8-of_chars bytes utf8 =
    let given = points_of bytes (IsUtf8-from_is_utf8 bytes utf8) in
    subst (λ (points : List ℕ). IsUtf8Of bytes points) (sym (points_from_utf8 bytes _ given)) given

pub chars-encoded : (bytes : List ℕ) → is_utf8 bytes ≡ true → utf8_of (chars bytes) ≡ bytes
chars-encoded bytes utf8 = let is = utf8-of_chars bytes utf8 in is.encoded
