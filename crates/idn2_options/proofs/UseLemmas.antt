-- The uses of options, found step by step.
use Rattle.std.proofs.Common.{◌≡◌, ◌∙◌, ◌≤◌, ◌+◌, ℕ, Bool, true, false, not, List, [], ◌∷◌, Option, Some, None, cond, length, map, take, drop, ltb, refl, sym, ap, arith}
use Rattle.std.specs.Prelude.{String, string_bytes}
use Rattle.std.specs.List.{before_first, position_or_len}
use Rattle.std.proofs.lemmas.Bool.Decides.{nat_tests}
use Rattle.std.proofs.lemmas.List.{take-map, take_all}
use Rattle.std.specs.Str.{chars}
use Rattle.clap.specs.Lexer.{long_of, short_of}
use Rattle.clap.specs.Walk.{Text}
use Rattle.idn2_options.specs.Uses.{Named, Use, by_letter, ends_options, front, uses_by}
use Rattle.idn2_options.specs.inner.Shown.{uses_by_letters}

module _ {Z : Type 0} where
  -- the word, as a text, ends options
  abbrev pub ends : String Z → Bool
  ends word = ends_options (string_bytes word)

  position-texts : (words : List (String Z)) → position_or_len ends_options (map string_bytes words) ≡ position_or_len ends words
  position-texts [] = refl
  position-texts (word ∷ words) = ap (λ n. cond (not (ends word)) (1 + n) 0) (position-texts words)

  front-texts : (words : List (String Z)) → before_first ends_options (map string_bytes words) ≡ map string_bytes (take (position_or_len ends words) words)
  front-texts words = ap (λ n. take n (map string_bytes words)) (position-texts words) ∙ take-map string_bytes (position_or_len ends words) words

  place-some : (words : List (String Z)) (end : ℕ) (t : Bool) → Some end ≡ cond t (Some (position_or_len ends words)) None → end ≡ position_or_len ends words
  place-some words end true is = cc
  place-some words end false is = absurd (cc)

  place-none : (words : List (String Z)) (t : Bool) → None ≡ cond t (Some (position_or_len ends words)) None → t ≡ false
  place-none words true is = absurd (cc)
  place-none words false is = refl

  pub front-some : (words : List (String Z)) (end : ℕ) → Some end ≡ cond (ltb (position_or_len ends words) (length words)) (Some (position_or_len ends words)) None
      → map string_bytes (take end words) ≡ before_first ends_options (map string_bytes words)
  front-some words end is =
      ap (λ n. map string_bytes (take n words)) (place-some words end (ltb (position_or_len ends words) (length words)) is) ∙ sym (front-texts words)

  pub front-none : (words : List (String Z)) → None ≡ cond (ltb (position_or_len ends words) (length words)) (Some (position_or_len ends words)) None
      → map string_bytes words ≡ before_first ends_options (map string_bytes words)
  front-none words is =
      let past : ltb (position_or_len ends words) (length words) ≡ false = place-none words (ltb (position_or_len ends words) (length words)) is in
      let all : length words ≤ position_or_len ends words = grind (arith, nat_tests) in
      ap (map string_bytes) (sym (take_all (position_or_len ends words) words all)) ∙ sym (front-texts words)

  -- the first word is the program's name
  pub front-after : (words : List (String Z)) → before_first ends_options (map string_bytes (drop 1 words)) ≡ front (map string_bytes words)
  front-after [] = refl
  front-after (word ∷ words) = refl

-- what a word uses by its letters
uses-letters : (letters : List ℕ) (next : Option Text) → uses_by_letters letters next
    ≡ map (λ (named : Named × Option Text). record { option = named.0; attached = named.1; next = next }) (map (λ letter. (by_letter letter, None)) letters)
uses-letters [] next = refl
uses-letters (x ∷ xs) next = ap (λ (uses : List Use). record { option = by_letter x; attached = None; next = next } ∷ uses) (uses-letters xs next)

pub uses-by_letters : (word letters : Text) (next : Option Text) → None ≡ long_of word → Some letters ≡ short_of word
    → uses_by_letters (chars letters) next ≡ uses_by word next
uses-by_letters word letters next none some = rw (← none, ← some) (uses-letters (chars letters) next)
