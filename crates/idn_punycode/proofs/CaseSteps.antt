-- Capitals in a code: its digits are read in either case.
use Rattle.std.proofs.Common.{◌≡◌, ℕ, zero, suc, ◌+◌, ◌-◌, ◌*◌, ◌/◌, ◌%◌, Bool, true, false, cond, not, ◌==◌, List, [], ◌∷◌, ◌++◌, map, take, drop, length, reverse, insert, Option, Some, None, refl, sym, ap, ap₂, ◌∙◌, inl, inr, arith, take-append-drop}
use Rattle.std.specs.Char.{is_ascii, is_ascii_uppercase, to_ascii_lowercase}
use Rattle.std.specs.List.{list_all, prefix_len, suffix_len, after_last}
use Rattle.std.proofs.lemmas.Bool.{and_parts, cases_Bool, cases_lt, cond-true, cond-false}
use Rattle.std.proofs.lemmas.Bool.Decides.{nat_tests}
use Rattle.std.proofs.lemmas.List.{length-map, map-append, take-map, drop-map, reverse-append}
use Rattle.std.proofs.lemmas.List.Folds.{list_all-append}
use Rattle.idna.specs.Punycode.{delimiter, digit_value, threshold, adapt, read_integer, is_scalar, insert_all, basic_part, extended_part, decode}
use Rattle.idn_punycode.proofs.IntegerSteps.{cases_read, cases_value, read_integer-end, read_integer-no_digit, read_integer-last, read_integer-more}
use Rattle.idn_punycode.proofs.DecodingSteps.{insert_all-end, insert_all-unread, insert_all-read}

lower_digit : (c : ℕ) → digit_value (to_ascii_lowercase c) ≡ digit_value c
unfolding digit_value
lower_digit c = grind (arith, nat_tests)

abbrev lower : List ℕ → List ℕ
lower code = map to_ascii_lowercase code

abbrev with_lower_rest : Option (ℕ × List ℕ) → Option (ℕ × List ℕ)
with_lower_rest None = None
with_lower_rest (Some read) = Some (read.0, lower read.1)

read_integer-lower : (bias k weight sum integer : ℕ) (digits rest : List ℕ) → read_integer bias k weight sum digits ≡ Some (integer, rest) → read_integer bias k weight sum (lower digits) ≡ Some (integer, lower rest)
read_integer-lower bias k weight sum integer [] rest is =
    absurd (let clash : None ≡ Some (integer, rest) = sym (read_integer-end bias k weight sum) ∙ is in cc)
read_integer-lower bias k weight sum integer (c ∷ digits) rest is =
    elim (cases_value (digit_value c)) [
      | inl none ↦ absurd (let clash : None ≡ Some (integer, rest) = sym (read_integer-no_digit bias k weight sum c digits none) ∙ is in cc)
      | inr some ↦
          let digit = some.0 in
          let same : digit_value (to_ascii_lowercase c) ≡ Some digit = lower_digit c ∙ some.1 in
          elim (cases_lt digit (threshold bias k)) [
            | inl last ↦
                read_integer-last bias k weight sum (to_ascii_lowercase c) digit (lower digits) same last
                ∙ ap with_lower_rest (sym (read_integer-last bias k weight sum c digit digits some.1 last) ∙ is)
            | inr more ↦
                read_integer-more bias k weight sum (to_ascii_lowercase c) digit (lower digits) same more
                ∙ read_integer-lower bias (k + 36) (weight * (36 - threshold bias k)) (sum + digit * weight) integer digits rest
                (sym (read_integer-more bias k weight sum c digit digits some.1 more) ∙ is)
          ]
    ]

list_all-insert : (p : ℕ → Bool) (xs : List ℕ) (place x : ℕ) → list_all p (insert xs place x) ≡ true → list_all p xs ≡ true
list_all-insert p xs place x all =
    let front = and_parts (list_all p (take place xs)) (list_all p (x ∷ drop place xs)) (sym (list_all-append p (take place xs) (x ∷ drop place xs)) ∙ all) in
    let back = and_parts (p x) (list_all p (drop place xs)) front.1 in
    ap (list_all p) (sym (take-append-drop place xs)) ∙ list_all-append p (take place xs) (drop place xs) ∙ rw (front.0, back.1) refl

insert_all-late : (code_point place bias : ℕ) (label : List ℕ) (c : ℕ) (rest : List ℕ) → insert_all zero code_point place bias label (c ∷ rest) ≡ None
unfolding insert_all
insert_all-late code_point place bias label c rest = refl

-- the digits put in lower case give the same label; what is true of all its code points was true of those so far
insert_all-lower : (p : ℕ → Bool) (turns code_point place bias : ℕ) (label rest answer : List ℕ) → insert_all turns code_point place bias label rest ≡ Some answer → list_all p answer ≡ true → (insert_all turns code_point place bias label (lower rest) ≡ Some answer) × (list_all p label ≡ true)
insert_all-lower p turns code_point place bias label [] answer is all =
    let same : label ≡ answer = (let both : Some label ≡ Some answer = sym (insert_all-end turns code_point place bias label) ∙ is in cc) in
    (is, ap (list_all p) same ∙ all)
insert_all-lower p zero code_point place bias label (c ∷ rest) answer is all =
    absurd (let clash : None ≡ Some answer = sym (insert_all-late code_point place bias label c rest) ∙ is in cc)
insert_all-lower p (suc turns) code_point place bias label (c ∷ rest) answer is all =
    elim (cases_read (read_integer bias 36 1 place (c ∷ rest))) [
      | inl none ↦
          absurd (let clash : None ≡ Some answer = sym (insert_all-unread (suc turns) code_point place bias label (c ∷ rest) (omega arith) none) ∙ is in cc)
      | inr read ↦
          let integer = read.0.0 in
          let tail = read.0.1 in
          let count = length label + 1 in
          let next = code_point + integer / count in
          let at = integer % count in
          let turn = insert_all-read turns code_point place bias integer label (c ∷ rest) tail (omega arith) read.1 in
          let turn_lower =
          insert_all-read turns code_point place bias integer label (lower (c ∷ rest)) (lower tail) (omega arith)
          (read_integer-lower bias 36 1 place integer (c ∷ rest) tail read.1) in
          elim (cases_Bool (is_scalar next)) [
            | inl scalar ↦
                let more =
                insert_all-lower p turns next (at + 1) (adapt (integer - place) count (place == 0)) (insert label at next) tail answer
                (sym (turn ∙ cond-true _ _ None scalar) ∙ is) all in
                (turn_lower ∙ cond-true _ _ None scalar ∙ more.0, list_all-insert p label at next more.1)
            | inr other ↦ absurd (let clash : None ≡ Some answer = sym (turn ∙ cond-false _ _ None other) ∙ is in cc)
          ]
    ]

-- ---- the delimiter

lower_delimiter : (c : ℕ) → not (to_ascii_lowercase c == delimiter) ≡ not (c == delimiter)
lower_delimiter c = grind (arith, nat_tests)

prefix_len-lower : (code : List ℕ) → prefix_len (λ c. not (c == delimiter)) (lower code) ≡ prefix_len (λ c. not (c == delimiter)) code
prefix_len-lower [] = refl
prefix_len-lower (c ∷ code) = ap₂ (λ b n. cond b (1 + n) 0) (lower_delimiter c) (prefix_len-lower code)

reverse-lower : (code : List ℕ) → reverse (lower code) ≡ lower (reverse code)
reverse-lower [] = refl
reverse-lower (c ∷ code) =
    reverse-append (to_ascii_lowercase c ∷ []) (lower code)
    ∙ ap (λ l. l ++ to_ascii_lowercase c ∷ []) (reverse-lower code)
    ∙ sym (map-append to_ascii_lowercase (reverse code) (c ∷ []))
    ∙ ap lower (sym (reverse-append (c ∷ []) code))

suffix_len-lower : (code : List ℕ) → suffix_len (λ c. not (c == delimiter)) (lower code) ≡ suffix_len (λ c. not (c == delimiter)) code
suffix_len-lower code = ap (prefix_len (λ c. not (c == delimiter))) (reverse-lower code) ∙ prefix_len-lower (reverse code)

basic_part-lower : (code : List ℕ) → basic_part (lower code) ≡ lower (basic_part code)
basic_part-lower code =
    ap₂ (λ n m. take (n - m - 1) (lower code)) (length-map code to_ascii_lowercase) (suffix_len-lower code) ∙ take-map to_ascii_lowercase _ code

extended_part-lower : (code : List ℕ) → extended_part (lower code) ≡ lower (extended_part code)
extended_part-lower code =
    let none : (length (basic_part (lower code)) == 0) ≡ (length (basic_part code) == 0) =
    ap (λ n. n == 0) (ap length (basic_part-lower code) ∙ length-map (basic_part code) to_ascii_lowercase) in
    let after : after_last (λ c. c == delimiter) (lower code) ≡ lower (after_last (λ c. c == delimiter) code) =
    ap₂ (λ n m. drop (n - m) (lower code)) (length-map code to_ascii_lowercase) (suffix_len-lower code) ∙ drop-map to_ascii_lowercase _ code in
    ap₂ (λ b l. cond b (lower code) l) none after ∙ either (length (basic_part code) == 0)
  where
    either : (b : Bool) → cond b (lower code) (lower (after_last (λ c. c == delimiter) code)) ≡ lower (cond b code (after_last (λ c. c == delimiter) code))
    either true = refl
    either false = refl

-- ---- the whole code

decode-parts : (code : List ℕ) → decode code ≡ cond (list_all is_ascii (basic_part code)) (insert_all (length code) 128 0 72 (basic_part code) (extended_part code)) None
unfolding decode
decode-parts code = refl

same_lower : (c : ℕ) → not (is_ascii_uppercase c) ≡ true → to_ascii_lowercase c ≡ c
same_lower c h = grind (arith, nat_tests)

lower_same : (xs : List ℕ) → list_all (λ c. not (is_ascii_uppercase c)) xs ≡ true → lower xs ≡ xs
lower_same [] all = refl
lower_same (c ∷ xs) all =
    let parts = and_parts (not (is_ascii_uppercase c)) (list_all (λ c. not (is_ascii_uppercase c)) xs) all in
    ap₂ ◌∷◌ (same_lower c parts.0) (lower_same xs parts.1)

-- a code that stands for a label without capitals stands for it in lower case too
pub decode-lower : (code label : List ℕ) → decode code ≡ Some label → list_all (λ c. not (is_ascii_uppercase c)) label ≡ true → decode (lower code) ≡ Some label
decode-lower code label is all =
    elim (cases_Bool (list_all is_ascii (basic_part code))) [
      | inl ascii ↦
          let inserted : insert_all (length code) 128 0 72 (basic_part code) (extended_part code) ≡ Some label =
          sym (cond-true _ _ None ascii) ∙ sym (decode-parts code) ∙ is in
          let both = insert_all-lower (λ c. not (is_ascii_uppercase c)) (length code) 128 0 72 (basic_part code) (extended_part code) label inserted all in
          let basic : basic_part (lower code) ≡ basic_part code = basic_part-lower code ∙ lower_same (basic_part code) both.1 in
          decode-parts (lower code)
          ∙ ap (λ b. cond (list_all is_ascii b) (insert_all (length (lower code)) 128 0 72 b (extended_part (lower code))) None) basic
          ∙ cond-true _ _ None ascii
          ∙ ap₂ (λ n l. insert_all n 128 0 72 (basic_part code) l) (length-map code to_ascii_lowercase) (extended_part-lower code)
          ∙ both.0
      | inr other ↦ absurd (let clash : None ≡ Some label = sym (decode-parts code ∙ cond-false _ _ None other) ∙ is in cc)
    ]
