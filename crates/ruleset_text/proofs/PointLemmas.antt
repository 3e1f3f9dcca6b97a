-- The canonical text of a code point is a word, and is read as it.
use Rattle.std.proofs.Common.{◌≡◌, ℕ, true, false, ◌||◌, ◌&&◌, cond, eqb, List, [], ◌∷◌, Some, refl, ap, ◌∙◌, arith}
use Rattle.std.specs.Prelude.{IsTrue}
use Rattle.std.specs.List.{list_all, AllByRecursion}
use Rattle.std.proofs.lemmas.Bool.{and_parts, or_from}
use Rattle.idn_text.specs.Points.{point_of_hex, is_hex_digit, is_scalar_value}
use Rattle.ruleset_text.specs.declared.token.Token.TheVariants as token
use Rattle.ruleset_text.specs.Lexemes.{is_word_byte}
use Rattle.ruleset_text.specs.Canonical.{point_text, IsWordOf}
use Rattle.ruleset_text.specs.Tokens.{point_token, set_token, without_prefix}
use Rattle.ruleset_text.proofs.HexLemmas.{IsHex, hex_facts, other_than, hex_in_word, point_of_hex-text}

digits_in_word : (digits : List ℕ) → list_all is_hex_digit digits ≡ true → AllByRecursion (λ c. IsTrue (is_word_byte c)) digits
digits_in_word [] h = tt
digits_in_word (c ∷ cs) h = let p = and_parts (is_hex_digit c) (list_all is_hex_digit cs) h in (hex_in_word c p.0, digits_in_word cs p.1)

pub without_prefix-hex : (digits : List ℕ) (c : ℕ) → IsHex digits c → without_prefix digits ≡ digits
without_prefix-hex [] c h = refl
without_prefix-hex (x ∷ []) c h = refl
without_prefix-hex (x ∷ y ∷ ds) c h =
    let digit = (and_parts (is_hex_digit x) (list_all is_hex_digit (y ∷ ds)) h.digit).0 in
    ap (λ b. cond (b && eqb y 43) ds (x ∷ y ∷ ds)) (or_from (eqb x 85) (eqb x 117) (other_than 85 x refl digit) (other_than 117 x refl digit))

hex_word : (names : List (List ℕ)) (digits : List ℕ) (c : ℕ) → IsHex digits c → point_of_hex digits ≡ Some c → IsWordOf names (token.Point c) digits
hex_word names [] c h e = absurd (let f = h.long in cc)
hex_word names (x ∷ []) c h e = absurd (let f = h.long in cc)
hex_word names (x ∷ y ∷ ds) c h e =
    let p = and_parts (is_hex_digit x) (list_all is_hex_digit (y ∷ ds)) h.digit in
    let no_u : (eqb x 85 || eqb x 117) ≡ false = or_from (eqb x 85) (eqb x 117) (other_than 85 x refl p.0) (other_than 117 x refl p.0) in
    let kept : without_prefix (x ∷ y ∷ ds) ≡ x ∷ y ∷ ds = ap (λ b. cond (b && eqb y 43) ds (x ∷ y ∷ ds)) no_u in (
      omega arith,
      digits_in_word (x ∷ y ∷ ds) h.digit,
      ap (λ b. cond b (set_token names (y ∷ ds)) (point_token (point_of_hex (without_prefix (x ∷ y ∷ ds))))) (other_than 64 x refl p.0)
          ∙ ap (λ w. point_token (point_of_hex w)) kept ∙ ap point_token e,
    )

pub point_word : (names : List (List ℕ)) (c : ℕ) → is_scalar_value c ≡ true → IsWordOf names (token.Point c) (point_text c)
point_word names c s = let e = point_of_hex-text c s in hex_word names (point_text c) c (hex_facts (point_text c) c e) e
