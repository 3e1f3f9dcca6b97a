-- Texts of which each byte stands as it is.
use Rattle.std.proofs.Common.{◌≡◌, ℕ, ◌<◌, ◌/◌, ◌%◌, nat_lt, cond, Bool, true, false, not, ◌&&◌, ◌==◌, nat_le, List, [], ◌∷◌, ◌++◌, refl, sym, ap, ap₂, ◌∙◌, append_assoc, arith, slice_index}
use Rattle.std.proofs.lemmas.List.Folds.{list_all-append}
use Rattle.std.proofs.lemmas.Bool.{and_parts, and_from}
use Rattle.std.proofs.lemmas.Bool.Decides.{nat_tests}
use Rattle.json.specs.Print.{escape, escape_byte, quoted}
use Rattle.json.proofs.Printed.Strings.{escape_byte_plain}
use Rattle.answer_json.specs.Hexadecimal.{hex_of, hex_of_byte, leading_digit, point_text}
use Rattle.idn_text.specs.Points.{hex_digit, four_digits}
use Rattle.answer_json.specs.inner.Openings.{IsOpening, name_in}
use Rattle.answer_json.specs.inner.Texts.{is_plain, is_plain_byte}

plain_byte : (byte : ℕ) → is_plain_byte byte ≡ true → escape_byte byte ≡ byte ∷ []
plain_byte byte h =
    let first = and_parts (nat_le 32 byte) (not (byte == 34) && not (byte == 92)) h in
    let others = and_parts (not (byte == 34)) (not (byte == 92)) first.1 in
    escape_byte_plain byte (λ e. grind (arith, nat_tests)) (λ e. grind (arith, nat_tests)) (grind (arith, nat_tests))

pub escape_plain : (text : List ℕ) → is_plain text ≡ true → escape text ≡ text
escape_plain [] h = refl
escape_plain (byte ∷ text) h =
    let parts = and_parts (is_plain_byte byte) (is_plain text) h in
    ap₂ (λ (a b : List ℕ). a ++ b) (plain_byte byte parts.0) (escape_plain text parts.1)

-- what a member begins with, as it is written of its name
pub opening_text : (opening : List ℕ) → IsOpening opening → opening ≡ slice_index opening 0 ∷ (quoted (name_in opening) ++ 58 ∷ [])
opening_text opening h =
    let name = name_in opening in
    h.text ∙ ap (λ l. slice_index opening 0 ∷ 34 ∷ l)
    (ap (λ l. l ++ 34 ∷ 58 ∷ []) (sym (escape_plain name h.plain)) ∙ sym (append_assoc (escape name) (34 ∷ []) (58 ∷ [])))

-- a text in quotes, a piece at a time
pub text_put : (old name bytes : List ℕ) (before : ℕ) → escape bytes ≡ bytes
    → (((old ++ before ∷ (name ++ 58 ∷ [])) ++ 34 ∷ []) ++ bytes) ++ 34 ∷ [] ≡ old ++ before ∷ (name ++ 58 ∷ quoted bytes)
text_put old name bytes before e = simp append_assoc (ap (λ l. old ++ before ∷ (name ++ 58 ∷ 34 ∷ (l ++ 34 ∷ []))) (sym e))

-- ---- hexadecimal digits

digit_plain : (d : ℕ) → d < 16 → is_plain_byte (hex_digit d) ≡ true
digit_plain d small = grind (arith, nat_tests)

plain_append : (a b : List ℕ) → is_plain a ≡ true → is_plain b ≡ true → is_plain (a ++ b) ≡ true
plain_append a b first second = list_all-append is_plain_byte a b ∙ and_from (is_plain a) (is_plain b) first second

plain_cons : (byte : ℕ) (text : List ℕ) → is_plain_byte byte ≡ true → is_plain text ≡ true → is_plain (byte ∷ text) ≡ true
plain_cons byte text first second = and_from (is_plain_byte byte) (is_plain text) first second

byte_plain : (byte : ℕ) → is_plain (hex_of_byte byte) ≡ true
unfolding hex_of_byte
byte_plain byte =
    plain_cons (hex_digit (byte / 16 % 16)) (hex_digit (byte % 16) ∷ []) (digit_plain (byte / 16 % 16) (omega arith))
    (plain_cons (hex_digit (byte % 16)) [] (digit_plain (byte % 16) (omega arith)) refl)

pub hex_plain : (bytes : List ℕ) → is_plain (hex_of bytes) ≡ true
hex_plain [] = refl
hex_plain (byte ∷ bytes) = plain_append (hex_of_byte byte) (hex_of bytes) (byte_plain byte) (hex_plain bytes)

plain_unless : (b : Bool) (digit : ℕ) → is_plain_byte digit ≡ true → is_plain (cond b [] (digit ∷ [])) ≡ true
plain_unless true digit h = refl
plain_unless false digit h = plain_cons digit [] h refl

leading_plain : (point unit : ℕ) → is_plain (leading_digit point unit) ≡ true
leading_plain point unit = plain_unless (nat_lt point unit) (hex_digit (point / unit % 16)) (digit_plain (point / unit % 16) (omega arith))

four_plain : (point : ℕ) → is_plain (four_digits point) ≡ true
four_plain point =
    let a = hex_digit (point / 0x1000 % 16) in
    let b = hex_digit (point / 0x100 % 16) in
    let d = hex_digit (point / 0x10 % 16) in
    let e = hex_digit (point % 16) in
    plain_cons a (b ∷ d ∷ e ∷ []) (digit_plain (point / 0x1000 % 16) (omega arith))
    (plain_cons b (d ∷ e ∷ []) (digit_plain (point / 0x100 % 16) (omega arith))
    (plain_cons d (e ∷ []) (digit_plain (point / 0x10 % 16) (omega arith)) (plain_cons e [] (digit_plain (point % 16) (omega arith)) refl)))

pub point_plain : (point : ℕ) → is_plain (point_text point) ≡ true
unfolding point_text
point_plain point =
    let first = leading_digit point 0x10000000 in
    let second = leading_digit point 0x1000000 in
    let third = leading_digit point 0x100000 in
    let fourth = leading_digit point 0x10000 in
    let last = four_digits point in
    plain_append first (second ++ (third ++ (fourth ++ last))) (leading_plain point 0x10000000)
    (plain_append second (third ++ (fourth ++ last)) (leading_plain point 0x1000000)
    (plain_append third (fourth ++ last) (leading_plain point 0x100000) (plain_append fourth last (leading_plain point 0x10000) (four_plain point))))
