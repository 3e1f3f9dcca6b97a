-- The first word of a text.
use Rattle.std.proofs.Common.{◌≡◌, ℕ, suc, ◌+◌, ◌<◌, ◌≤◌, Bool, true, false, not, cond, ltb, List, [], ◌∷◌, length, take, drop, Option, Some, None, refl, sym, ap, ◌∙◌, arith}
use Rattle.std.specs.Prelude.{unwrap_or}
use Rattle.std.specs.List.{position_or_len, onto_first}
use Rattle.std.proofs.lemmas.List.Sums.{prefix_len-le-length}
use Rattle.std.proofs.lemmas.Bool.{ltb-false}
use Rattle.lgr_text.specs.Words.{begins_in_word, words}
use Rattle.xml_text.specs.Names.{is_blank}

abbrev pub first_place : List ℕ → ℕ
first_place text = position_or_len (λ b. not (is_blank b)) text

blank_step : (b : ℕ) (bs : List ℕ) (is : Bool) → is_blank b ≡ is → words bs ≡ words (drop (first_place bs) bs) → words (b ∷ bs) ≡ words (drop (cond (not (not is)) (1 + first_place bs) 0) (b ∷ bs))
blank_step b bs true e rest =
    let one : 1 + first_place bs ≡ suc (first_place bs) = omega arith in
    let here : words (b ∷ bs) ≡ words bs = ap (λ t. cond t (words bs) (cond (begins_in_word bs) (onto_first b (words bs)) ((b ∷ []) ∷ words bs))) e in
    here ∙ rest ∙ ap (λ n. words (drop n (b ∷ bs))) (sym one)
blank_step b bs false e rest = refl

-- the blanks at the front are of no word
pub words-blanks : (text : List ℕ) → words text ≡ words (drop (first_place text) text)
words-blanks [] = refl
words-blanks (b ∷ bs) = blank_step b bs (is_blank b) refl (words-blanks bs)

first_step : (b : ℕ) (bs : List ℕ) (is : Bool) → is_blank b ≡ is → ((d : ℕ) (ds : List ℕ) → drop (first_place bs) bs ≡ d ∷ ds → is_blank d ≡ false) → (d : ℕ) (ds : List ℕ) → drop (cond (not (not is)) (1 + first_place bs) 0) (b ∷ bs) ≡ d ∷ ds → is_blank d ≡ false
first_step b bs true e rest d ds is = rest d ds (ap (λ n. drop n (b ∷ bs)) (let one : suc (first_place bs) ≡ 1 + first_place bs = omega arith in one) ∙ is)
first_step b bs false e rest d ds is = let same : b ≡ d = cc in ap is_blank (sym same) ∙ e

-- what follows them is no blank
is_blank-first : (text : List ℕ) (d : ℕ) (ds : List ℕ) → drop (first_place text) text ≡ d ∷ ds → is_blank d ≡ false
is_blank-first [] d ds e = absurd cc
is_blank-first (b ∷ bs) d ds e = first_step b bs (is_blank b) refl (is_blank-first bs) d ds e

abbrev pub word_len : List ℕ → ℕ
word_len text = position_or_len is_blank text

in_word : (b : ℕ) (bs : List ℕ) → is_blank b ≡ false → words (b ∷ bs) ≡ cond (begins_in_word bs) (onto_first b (words bs)) ((b ∷ []) ∷ words bs)
in_word b bs e = ap (λ t. cond t (words bs) (cond (begins_in_word bs) (onto_first b (words bs)) ((b ∷ []) ∷ words bs))) e

word_len-more : (b : ℕ) (bs : List ℕ) → is_blank b ≡ false → word_len (b ∷ bs) ≡ suc (word_len bs)
word_len-more b bs e = ap (λ t. cond (not t) (1 + word_len bs) 0) e ∙ (let one : 1 + word_len bs ≡ suc (word_len bs) = omega arith in one)

-- a word goes on up to a blank
words-word : (b : ℕ) (bs : List ℕ) → is_blank b ≡ false → words (b ∷ bs) ≡ take (word_len (b ∷ bs)) (b ∷ bs) ∷ words (drop (word_len (b ∷ bs)) (b ∷ bs))
words-word b [] e = in_word b [] e ∙ ap (λ n. take n (b ∷ []) ∷ words (drop n (b ∷ []))) (sym (word_len-more b [] e))
words-word b (d ∷ ds) e = in_word b (d ∷ ds) e ∙ step (is_blank d) refl (words-word d ds) ∙ ap (λ n. take n (b ∷ d ∷ ds) ∷ words (drop n (b ∷ d ∷ ds))) (sym (word_len-more b (d ∷ ds) e))
  where
    n : ℕ
    n = word_len (d ∷ ds)

    stops : is_blank d ≡ true → 0 ≡ n
    stops g = ap (λ t. cond (not t) (1 + word_len ds) 0) (sym g)

    step : (is : Bool) → is_blank d ≡ is → (is_blank d ≡ false → words (d ∷ ds) ≡ take n (d ∷ ds) ∷ words (drop n (d ∷ ds))) → cond (not is) (onto_first b (words (d ∷ ds))) ((b ∷ []) ∷ words (d ∷ ds)) ≡ (b ∷ take n (d ∷ ds)) ∷ words (drop n (d ∷ ds))
    step true g rest = ap (λ k. (b ∷ take k (d ∷ ds)) ∷ words (drop k (d ∷ ds))) (stops g)
    step false g rest = ap (onto_first b) (rest g)

-- the place that a search gives, or the end where there is none
pub unwrap_place : (p : ℕ → Bool) (xs : List ℕ) (o : Option ℕ) (n : ℕ) → o ≡ cond (ltb (position_or_len p xs) (length xs)) (Some (position_or_len p xs)) None → n ≡ unwrap_or o (length xs) → n ≡ position_or_len p xs
unwrap_place p xs o n e is = is ∙ ap (λ o. unwrap_or o (length xs)) e ∙ step (ltb (position_or_len p xs) (length xs)) refl
  where
    at : ℕ
    at = position_or_len p xs

    step : (b : Bool) → ltb at (length xs) ≡ b → unwrap_or (cond b (Some at) None) (length xs) ≡ at
    step true e = refl
    step false e = omega (arith, prefix_len-le-length (λ x. not (p x)) xs, ltb-false at (length xs) e)

-- ---- the text after its blanks

pub no-word : (text front : List ℕ) → front ≡ drop (first_place text) text → length front ≤ 0 → words text ≡ []
no-word text [] e l = words-blanks text ∙ ap words (sym e)
no-word text (b ∷ bs) e l = absurd (omega (arith, l))

pub first-word : (text front : List ℕ) (n : ℕ) → front ≡ drop (first_place text) text → 0 < length front → n ≡ word_len front → (words text ≡ take n front ∷ words (drop n front)) × (0 < n)
first-word text [] n e l is = absurd (omega (arith, l))
first-word text (b ∷ bs) n e l is =
    let first = is_blank-first text b bs (sym e) in
    (words-blanks text ∙ ap words (sym e) ∙ words-word b bs first ∙ ap (λ k. take k (b ∷ bs) ∷ words (drop k (b ∷ bs))) (sym is), omega (arith, is, word_len-more b bs first))
