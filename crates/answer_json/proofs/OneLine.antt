-- No byte that is written of a value is below the space.
use Rattle.std.proofs.Common.{◌≡◌, ℕ, zero, suc, ◌+◌, ◌<◌, ◌≤◌, ◌^◌, ◌/◌, ◌%◌, Bool, true, false, ◌&&◌, ◌||◌, ◌==◌, nat_lt, nat_le, cond, List, [], ◌∷◌, ◌++◌, map, refl, ap, ◌∙◌, inl, inr, arith}
use Rattle.std.specs.Char.{digit_char}
use Rattle.std.specs.Int.Digits.{digits_of}
use Rattle.std.specs.Fmt.{decimal}
use Rattle.std.proofs.lemmas.Bool.{and_from, or_cases, eqb-true}
use Rattle.std.proofs.lemmas.Bool.Decides.{nat_tests}
use Rattle.std.proofs.lemmas.Fmt.{decimal-digits_of, decimal_digit}
use Rattle.std.proofs.lemmas.List.Folds.{list_all-append}
use Rattle.json.specs.Print.{escape_letter, escape_byte, escape, token_text, separator, print_from, begins, ends}
use Rattle.json.specs.Token.{Token, begin_object, end_object, begin_array, end_array, key, string, number, boolean, null, bad}
use Rattle.answer_json.specs.Clear.{is_clear}

le_test : (byte : ℕ) → 32 ≤ byte → nat_le 32 byte ≡ true
le_test byte h = grind (arith, nat_tests)

clear_cons : (byte : ℕ) (text : List ℕ) → 32 ≤ byte → is_clear text ≡ true → is_clear (byte ∷ text) ≡ true
clear_cons byte text h rest = and_from (nat_le 32 byte) (is_clear text) (le_test byte h) rest

clear_append : (a b : List ℕ) → is_clear a ≡ true → is_clear b ≡ true → is_clear (a ++ b) ≡ true
clear_append a b first second = list_all-append (λ byte. nat_le 32 byte) a b ∙ and_from (is_clear a) (is_clear b) first second

-- ---- what stands for a byte

letter_at : (a b c d e f : Bool) (x : ℕ) → (a ≡ true → 32 ≤ x) → nat_lt 0 (cond a x (cond b 98 (cond c 102 (cond d 110 (cond e 114 (cond f 116 0)))))) ≡ true → 32 ≤ cond a x (cond b 98 (cond c 102 (cond d 110 (cond e 114 (cond f 116 0)))))
letter_at true b c d e f x h g = h refl
letter_at false true c d e f x h g = omega arith
letter_at false false true d e f x h g = omega arith
letter_at false false false true e f x h g = omega arith
letter_at false false false false true f x h g = omega arith
letter_at false false false false false true x h g = omega arith
letter_at false false false false false false x h g = let clash : false ≡ true = g in absurd (let no : ⊥ = cc in no)

quote_or_backslash : (x : ℕ) → ((x == 34) || (x == 92)) ≡ true → 32 ≤ x
quote_or_backslash x h =
    elim (or_cases (x == 34) (x == 92) h) [
      | inl quote ↦ let same : x ≡ 34 = eqb-true x 34 quote in omega arith
      | inr backslash ↦ let same : x ≡ 92 = eqb-true x 92 backslash in omega arith
    ]

letter_clear : (x : ℕ) → nat_lt 0 (escape_letter x) ≡ true → 32 ≤ escape_letter x
letter_clear x h = letter_at ((x == 34) || (x == 92)) (x == 8) (x == 12) (x == 10) (x == 13) (x == 9) x (quote_or_backslash x) h

digit_at : (low : Bool) (d : ℕ) → 32 ≤ cond low (48 + d) (87 + d)
digit_at true d = omega arith
digit_at false d = omega arith

digit_clear : (d : ℕ) → 32 ≤ digit_char d
digit_clear d = digit_at (nat_lt d 10) d

cond_clear : (a b : Bool) (p q r : List ℕ) → (a ≡ true → is_clear p ≡ true) → (b ≡ true → is_clear q ≡ true) → (b ≡ false → is_clear r ≡ true) → is_clear (cond a p (cond b q r)) ≡ true
cond_clear true b p q r first second third = first refl
cond_clear false true p q r first second third = second refl
cond_clear false false p q r first second third = third refl

escape_byte-clear : (x : ℕ) → is_clear (escape_byte x) ≡ true
unfolding escape_byte
escape_byte-clear x =
    cond_clear (nat_lt 0 (escape_letter x)) (nat_lt x 32) (92 ∷ escape_letter x ∷ []) (92 ∷ 117 ∷ 48 ∷ 48 ∷ digit_char (x / 16) ∷ digit_char (x % 16) ∷ []) (x ∷ [])
    (λ h. clear_cons (escape_letter x) [] (letter_clear x h) refl)
    (λ h. clear_cons (digit_char (x / 16)) (digit_char (x % 16) ∷ []) (digit_clear (x / 16)) (clear_cons (digit_char (x % 16)) [] (digit_clear (x % 16)) refl))
    (λ h. clear_cons x [] (let low : 32 ≤ x = grind (arith, nat_tests) in low) refl)

pub escape-clear : (text : List ℕ) → is_clear (escape text) ≡ true
escape-clear [] = refl
escape-clear (x ∷ text) = clear_append (escape_byte x) (escape text) (escape_byte-clear x) (escape-clear text)

-- ---- numbers

digits_clear : (digits : List ℕ) → is_clear (map (λ d. 48 + d) digits) ≡ true
digits_clear [] = refl
digits_clear (d ∷ digits) = clear_cons (48 + d) (map (λ e. 48 + e) digits) (omega arith) (digits_clear digits)

clear_same : (text digits : List ℕ) → text ≡ map (λ d. 48 + d) digits → is_clear text ≡ true
clear_same text digits same = ap is_clear same ∙ digits_clear digits

decimal_zero : is_clear (decimal 0) ≡ true
decimal_zero = ap is_clear (decimal_digit 0 (omega arith))

pub decimal-clear : (n : ℕ) → n < 2 ^ 64 → is_clear (decimal n) ≡ true
decimal-clear zero small = decimal_zero
decimal-clear (suc n) small = clear_same (decimal (suc n)) (digits_of 10 (suc n)) (decimal-digits_of (suc n) (omega arith) small)

-- ---- tokens

abbrev pub IsClearToken : Token → Type 0
IsClearToken (number text) = is_clear text ≡ true
IsClearToken _ = Unit {0}

abbrev pub AreClear : List Token → Type 0
AreClear [] = Unit {0}
AreClear (token ∷ tokens) = IsClearToken token × AreClear tokens

quoted_clear : (text end : List ℕ) → is_clear end ≡ true → is_clear (34 ∷ (escape text ++ 34 ∷ end)) ≡ true
quoted_clear text end h = clear_append (escape text) (34 ∷ end) (escape-clear text) h

token_clear : (token : Token) → IsClearToken token → is_clear (token_text token) ≡ true
token_clear begin_object h = refl
token_clear end_object h = refl
token_clear begin_array h = refl
token_clear end_array h = refl
token_clear (key text) h = clear_append (34 ∷ (escape text ++ 34 ∷ [])) (58 ∷ []) (quoted_clear text [] refl) refl
token_clear (string text) h = quoted_clear text [] refl
token_clear (number text) h = h
token_clear (boolean true) h = refl
token_clear (boolean false) h = refl
token_clear null h = refl
token_clear bad h = refl

comma_clear : (b : Bool) → is_clear (cond b (44 ∷ []) []) ≡ true
comma_clear true = refl
comma_clear false = refl

pub print_from-clear : (after : Bool) (tokens : List Token) → AreClear tokens → is_clear (print_from after tokens) ≡ true
unfolding print_from
print_from-clear after [] h = refl
print_from-clear after (token ∷ tokens) h =
    clear_append (separator after token) (token_text token ++ print_from (ends token) tokens) (comma_clear (after && begins token))
    (clear_append (token_text token) (print_from (ends token) tokens) (token_clear token h.0) (print_from-clear (ends token) tokens h.1))
