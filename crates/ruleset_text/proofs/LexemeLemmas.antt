-- The first lexeme of a line.
use Rattle.std.proofs.Common.{◌≡◌, ℕ, suc, ◌+◌, ◌<◌, ◌≤◌, Bool, true, false, not, cond, eqb, ltb, ◌||◌, ◌&&◌, List, [], ◌∷◌, length, take, drop, get_or, Option, Some, None, refl, sym, ap, ◌∙◌, arith}
use Rattle.std.specs.Prelude.{unwrap_or}
use Rattle.std.specs.List.{position_or_len, onto_first}
use Rattle.std.proofs.lemmas.List.Sums.{prefix_len-le-length}
use Rattle.std.proofs.lemmas.Bool.{eqb-true, ltb-false, or_parts}
use Rattle.std.proofs.Math.Bool.{or-false}
use Rattle.ruleset_text.specs.Lexemes.{is_blank, is_mark, is_full_stop, is_word_end, begins_in_word, begins_in_stops, is_joined, lexemes}

is_text : ℕ → Bool
is_text c = not (is_blank c)

abbrev pub first_place : List ℕ → ℕ
first_place text = position_or_len (λ c. not (is_blank c)) text

blank_step : (c : ℕ) (cs : List ℕ) (b : Bool) → is_blank c ≡ b → lexemes cs ≡ lexemes (drop (first_place cs) cs) → lexemes (c ∷ cs) ≡ lexemes (drop (cond (not (not b)) (1 + first_place cs) 0) (c ∷ cs))
blank_step c cs true e rest =
    let one : 1 + first_place cs ≡ suc (first_place cs) = omega arith in
    let here : lexemes (c ∷ cs) ≡ lexemes cs = ap (λ b. cond b (lexemes cs) (cond (is_joined c cs) (onto_first c (lexemes cs)) ((c ∷ []) ∷ lexemes cs))) e in
    here ∙ rest ∙ ap (λ n. lexemes (drop n (c ∷ cs))) (sym one)
blank_step c cs false e rest = refl

-- the blanks at the front are no tokens
pub lexemes-blanks : (text : List ℕ) → lexemes text ≡ lexemes (drop (first_place text) text)
lexemes-blanks [] = refl
lexemes-blanks (c ∷ cs) = blank_step c cs (is_blank c) refl (lexemes-blanks cs)

first_step : (c : ℕ) (cs : List ℕ) (b : Bool) → is_blank c ≡ b → ((d : ℕ) (ds : List ℕ) → drop (first_place cs) cs ≡ d ∷ ds → is_blank d ≡ false) → (d : ℕ) (ds : List ℕ) → drop (cond (not (not b)) (1 + first_place cs) 0) (c ∷ cs) ≡ d ∷ ds → is_blank d ≡ false
first_step c cs true e rest d ds is = rest d ds (ap (λ n. drop n (c ∷ cs)) (let one : suc (first_place cs) ≡ 1 + first_place cs = omega arith in one) ∙ is)
first_step c cs false e rest d ds is = let same : c ≡ d = cc in ap is_blank (sym same) ∙ e

-- what follows them is no blank
pub is_blank-first : (text : List ℕ) (c : ℕ) (cs : List ℕ) → drop (first_place text) text ≡ c ∷ cs → is_blank c ≡ false
is_blank-first [] c cs e = absurd cc
is_blank-first (x ∷ xs) c cs e = first_step x xs (is_blank x) refl (is_blank-first xs) c cs e

-- no mark and no blank is a full stop
mark_no_stop : (c : ℕ) → is_mark c ≡ true → is_full_stop c ≡ false
mark_no_stop c s = by_cases (eqb c 46) refl
  where
    by_cases : (b : Bool) → eqb c 46 ≡ b → b ≡ false
    by_cases true e = let h : is_mark 46 ≡ true = sym (ap is_mark (eqb-true c 46 e)) ∙ s in absurd cc
    by_cases false e = refl

pub blank_no_stop : (c : ℕ) → is_blank c ≡ true → is_full_stop c ≡ false
blank_no_stop c s = by_cases (eqb c 46) refl
  where
    by_cases : (b : Bool) → eqb c 46 ≡ b → b ≡ false
    by_cases true e = let h : is_blank 46 ≡ true = sym (ap is_blank (eqb-true c 46 e)) ∙ s in absurd cc
    by_cases false e = refl

pub joined-mark : (c : ℕ) (cs : List ℕ) → is_blank c ≡ false → is_mark c ≡ true → is_joined c cs ≡ false
joined-mark c cs e s =
    ap (λ b. not (b || is_mark c || is_full_stop c) && begins_in_word cs || is_full_stop c && begins_in_stops cs) e
    ∙ ap (λ b. not (b || is_full_stop c) && begins_in_word cs || is_full_stop c && begins_in_stops cs) s
    ∙ ap (λ b. b && begins_in_stops cs) (mark_no_stop c s)

pub joined-word : (c : ℕ) (cs : List ℕ) → is_blank c ≡ false → is_mark c ≡ false → is_full_stop c ≡ false → is_joined c cs ≡ begins_in_word cs
joined-word c cs e s f =
    ap (λ b. not (b || is_mark c || is_full_stop c) && begins_in_word cs || is_full_stop c && begins_in_stops cs) e
    ∙ ap (λ b. not (b || is_full_stop c) && begins_in_word cs || is_full_stop c && begins_in_stops cs) s
    ∙ ap (λ b. not b && begins_in_word cs || b && begins_in_stops cs) f
    ∙ or-false (begins_in_word cs)

pub joined-stop : (c : ℕ) (cs : List ℕ) → is_blank c ≡ false → is_mark c ≡ false → is_full_stop c ≡ true → is_joined c cs ≡ begins_in_stops cs
joined-stop c cs e s f =
    ap (λ b. not (b || is_mark c || is_full_stop c) && begins_in_word cs || is_full_stop c && begins_in_stops cs) e
    ∙ ap (λ b. not (b || is_full_stop c) && begins_in_word cs || is_full_stop c && begins_in_stops cs) s
    ∙ ap (λ b. not b && begins_in_word cs || b && begins_in_stops cs) f

pub mark_step : (c : ℕ) (cs : List ℕ) → is_blank c ≡ false → is_mark c ≡ true → lexemes (c ∷ cs) ≡ (c ∷ []) ∷ lexemes cs
mark_step c cs e s =
    ap (λ b. cond b (lexemes cs) (cond (is_joined c cs) (onto_first c (lexemes cs)) ((c ∷ []) ∷ lexemes cs))) e
    ∙ ap (λ b. cond b (onto_first c (lexemes cs)) ((c ∷ []) ∷ lexemes cs)) (joined-mark c cs e s)

pub in_word : (c : ℕ) (cs : List ℕ) → is_blank c ≡ false → is_mark c ≡ false → is_full_stop c ≡ false → lexemes (c ∷ cs) ≡ cond (begins_in_word cs) (onto_first c (lexemes cs)) ((c ∷ []) ∷ lexemes cs)
in_word c cs e s f =
    ap (λ b. cond b (lexemes cs) (cond (is_joined c cs) (onto_first c (lexemes cs)) ((c ∷ []) ∷ lexemes cs))) e
    ∙ ap (λ b. cond b (onto_first c (lexemes cs)) ((c ∷ []) ∷ lexemes cs)) (joined-word c cs e s f)

pub in_stops : (c : ℕ) (cs : List ℕ) → is_full_stop c ≡ true → lexemes (c ∷ cs) ≡ cond (begins_in_stops cs) (onto_first c (lexemes cs)) ((c ∷ []) ∷ lexemes cs)
in_stops c cs f =
    let is : c ≡ 46 = eqb-true c 46 f in
    let no_blank : is_blank c ≡ false = ap is_blank is in
    let no_mark : is_mark c ≡ false = ap is_mark is in
    ap (λ b. cond b (lexemes cs) (cond (is_joined c cs) (onto_first c (lexemes cs)) ((c ∷ []) ∷ lexemes cs))) no_blank
    ∙ ap (λ b. cond b (onto_first c (lexemes cs)) ((c ∷ []) ∷ lexemes cs)) (joined-stop c cs no_blank no_mark f)

-- a run of full stops goes on up to another byte
abbrev pub stops_len : List ℕ → ℕ
stops_len text = position_or_len (λ c. not (is_full_stop c)) text

stops_len-more : (c : ℕ) (cs : List ℕ) → is_full_stop c ≡ true → stops_len (c ∷ cs) ≡ suc (stops_len cs)
stops_len-more c cs e = ap (λ b. cond (not (not b)) (1 + stops_len cs) 0) e ∙ (let one : 1 + stops_len cs ≡ suc (stops_len cs) = omega arith in one)

lexemes-stops : (c : ℕ) (cs : List ℕ) → is_full_stop c ≡ true → lexemes (c ∷ cs) ≡ take (stops_len (c ∷ cs)) (c ∷ cs) ∷ lexemes (drop (stops_len (c ∷ cs)) (c ∷ cs))
lexemes-stops c [] f = in_stops c [] f ∙ ap (λ n. take n (c ∷ []) ∷ lexemes (drop n (c ∷ []))) (sym (stops_len-more c [] f))
lexemes-stops c (d ∷ ds) f = in_stops c (d ∷ ds) f ∙ step (is_full_stop d) refl (lexemes-stops d ds) ∙ ap (λ n. take n (c ∷ d ∷ ds) ∷ lexemes (drop n (c ∷ d ∷ ds))) (sym (stops_len-more c (d ∷ ds) f))
  where
    n : ℕ
    n = stops_len (d ∷ ds)

    stops : is_full_stop d ≡ false → 0 ≡ n
    stops g = ap (λ b. cond (not (not b)) (1 + stops_len ds) 0) (sym g)

    step : (b : Bool) → is_full_stop d ≡ b → (is_full_stop d ≡ true → lexemes (d ∷ ds) ≡ take n (d ∷ ds) ∷ lexemes (drop n (d ∷ ds))) → cond b (onto_first c (lexemes (d ∷ ds))) ((c ∷ []) ∷ lexemes (d ∷ ds)) ≡ (c ∷ take n (d ∷ ds)) ∷ lexemes (drop n (d ∷ ds))
    step false g rest = ap (λ k. (c ∷ take k (d ∷ ds)) ∷ lexemes (drop k (d ∷ ds))) (stops g)
    step true g rest = ap (onto_first c) (rest g)

abbrev word_len : List ℕ → ℕ
word_len text = position_or_len is_word_end text

word_end : (c : ℕ) → is_blank c ≡ false → is_mark c ≡ false → is_full_stop c ≡ false → is_word_end c ≡ false
word_end c e s f = ap (λ b. b || is_mark c || is_full_stop c) e ∙ ap (λ b. b || is_full_stop c) s ∙ f

word_len-more : (c : ℕ) (cs : List ℕ) → is_word_end c ≡ false → word_len (c ∷ cs) ≡ suc (word_len cs)
word_len-more c cs e = ap (λ b. cond (not b) (1 + word_len cs) 0) e ∙ (let one : 1 + word_len cs ≡ suc (word_len cs) = omega arith in one)

-- a word goes on up to a blank or a mark
lexemes-word : (c : ℕ) (cs : List ℕ) → is_blank c ≡ false → is_mark c ≡ false → is_full_stop c ≡ false → lexemes (c ∷ cs) ≡ take (word_len (c ∷ cs)) (c ∷ cs) ∷ lexemes (drop (word_len (c ∷ cs)) (c ∷ cs))
lexemes-word c [] e s f = in_word c [] e s f ∙ ap (λ n. take n (c ∷ []) ∷ lexemes (drop n (c ∷ []))) (sym (word_len-more c [] (word_end c e s f)))
lexemes-word c (d ∷ ds) e s f = in_word c (d ∷ ds) e s f ∙ step (is_word_end d) refl (lexemes-word d ds) ∙ ap (λ n. take n (c ∷ d ∷ ds) ∷ lexemes (drop n (c ∷ d ∷ ds))) (sym (word_len-more c (d ∷ ds) (word_end c e s f)))
  where
    n : ℕ
    n = word_len (d ∷ ds)

    stops : is_word_end d ≡ true → 0 ≡ n
    stops g = ap (λ b. cond (not b) (1 + word_len ds) 0) (sym g)

    step : (b : Bool) → is_word_end d ≡ b → (is_blank d ≡ false → is_mark d ≡ false → is_full_stop d ≡ false → lexemes (d ∷ ds) ≡ take n (d ∷ ds) ∷ lexemes (drop n (d ∷ ds))) → cond (not b) (onto_first c (lexemes (d ∷ ds))) ((c ∷ []) ∷ lexemes (d ∷ ds)) ≡ (c ∷ take n (d ∷ ds)) ∷ lexemes (drop n (d ∷ ds))
    step true g rest = ap (λ k. (c ∷ take k (d ∷ ds)) ∷ lexemes (drop k (d ∷ ds))) (stops g)
    step false g rest = let parts = or_parts (is_blank d || is_mark d) (is_full_stop d) g in let more = or_parts (is_blank d) (is_mark d) parts.0 in ap (onto_first c) (rest more.0 more.1 parts.1)

-- ---- a place that a search gives

-- the place, or the end where there is none
pub unwrap_place : (p : ℕ → Bool) (xs : List ℕ) (o : Option ℕ) (n : ℕ) → o ≡ cond (ltb (position_or_len p xs) (length xs)) (Some (position_or_len p xs)) None → n ≡ unwrap_or o (length xs) → n ≡ position_or_len p xs
unwrap_place p xs o n e is = is ∙ ap (λ o. unwrap_or o (length xs)) e ∙ step (ltb (position_or_len p xs) (length xs)) refl
  where
    at : ℕ
    at = position_or_len p xs

    step : (b : Bool) → ltb at (length xs) ≡ b → unwrap_or (cond b (Some at) None) (length xs) ≡ at
    step true e = refl
    step false e = omega (arith, prefix_len-le-length (λ x. not (p x)) xs, ltb-false at (length xs) e)

-- ---- the same, of the first byte of a text that isn't empty

pub mark-at : (text : List ℕ) → 0 < length text → is_blank (get_or text 0 0) ≡ false → is_mark (get_or text 0 0) ≡ true → lexemes text ≡ take 1 text ∷ lexemes (drop 1 text)
mark-at [] l b m = absurd (omega (arith, l))
mark-at (c ∷ cs) l b m = mark_step c cs b m

pub stops-at : (text : List ℕ) (n : ℕ) → 0 < length text → is_full_stop (get_or text 0 0) ≡ true → n ≡ stops_len text → (lexemes text ≡ take n text ∷ lexemes (drop n text)) × (0 < n)
stops-at [] n l f e = absurd (omega (arith, l))
stops-at (c ∷ cs) n l f e = (lexemes-stops c cs f ∙ ap (λ k. take k (c ∷ cs) ∷ lexemes (drop k (c ∷ cs))) (sym e), omega (arith, e, stops_len-more c cs f))

pub word-at : (text : List ℕ) (n : ℕ) → 0 < length text → is_blank (get_or text 0 0) ≡ false → is_mark (get_or text 0 0) ≡ false → is_full_stop (get_or text 0 0) ≡ false → n ≡ word_len text → (lexemes text ≡ take n text ∷ lexemes (drop n text)) × (0 < n)
word-at [] n l b m f e = absurd (omega (arith, l))
word-at (c ∷ cs) n l b m f e = (lexemes-word c cs b m f ∙ ap (λ k. take k (c ∷ cs) ∷ lexemes (drop k (c ∷ cs))) (sym e), omega (arith, e, word_len-more c cs (word_end c b m f)))

-- what follows the blanks is empty, or begins with no blank
pub front-blank : (text front : List ℕ) → front ≡ drop (first_place text) text → 0 < length front → is_blank (get_or front 0 0) ≡ false
front-blank text [] e l = absurd (omega (arith, l))
front-blank text (c ∷ cs) e l = is_blank-first text c cs (sym e)

pub no-front : (text front : List ℕ) → front ≡ drop (first_place text) text → length front ≤ 0 → lexemes text ≡ []
no-front text [] e l = lexemes-blanks text ∙ ap lexemes (sym e)
no-front text (c ∷ cs) e l = absurd (omega (arith, l))

pub from-front : (text front : List ℕ) → front ≡ drop (first_place text) text → lexemes text ≡ lexemes front
from-front text front e = lexemes-blanks text ∙ ap lexemes (sym e)
