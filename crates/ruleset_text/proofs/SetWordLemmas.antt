-- The name of a set is a word, and is read as the number of that set.
use Rattle.std.proofs.Common.{◌≡◌, ℕ, zero, suc, ◌+◌, ◌<◌, true, false, ◌||◌, ◌&&◌, not, cond, eqb, List, [], ◌∷◌, length, refl, sym, ap, ◌∙◌, arith}
use Rattle.std.specs.Prelude.{IsTrue, nat_le, bytes_eq, slice_index_or}
use Rattle.std.specs.List.{list_all, AllByRecursion}
use Rattle.std.proofs.lemmas.Bool.{eqb-true, and_parts, or_from, false_from_ne_true}
use Rattle.std.proofs.lemmas.Slice.Eq.{bytes_eq-Decides}
use Rattle.ruleset_text.specs.declared.token.Token.TheVariants as token
use Rattle.ruleset_text.specs.Lexemes.{is_blank, is_mark, is_full_stop, is_word_byte}
use Rattle.ruleset_text.specs.Names.{is_letter, is_name_byte, is_name, number_of, AreNames}
use Rattle.ruleset_text.specs.Canonical.{set_text, IsWordOf}

pub other_than : (n c : ℕ) → is_name_byte n ≡ false → is_name_byte c ≡ true → eqb c n ≡ false
other_than n c other name = false_from_ne_true (eqb c n) (λ e. let f : true ≡ false = sym name ∙ ap is_name_byte (eqb-true c n e) ∙ other in cc)

pub name_in_word : (c : ℕ) → is_name_byte c ≡ true → is_word_byte c ≡ true
name_in_word c h =
    ap not (or_from (is_blank c || is_mark c) (is_full_stop c)
    (or_from (is_blank c) (is_mark c) (or_from (eqb c 32) (eqb c 9) (other_than 32 c refl h) (other_than 9 c refl h))
    (or_from (eqb c 45 || eqb c 124 || eqb c 58 || eqb c 33 || eqb c 44 || eqb c 47 || eqb c 40 || eqb c 41 || eqb c 63 || eqb c 42 || eqb c 94) (eqb c 36) (or_from (eqb c 45 || eqb c 124 || eqb c 58 || eqb c 33 || eqb c 44 || eqb c 47 || eqb c 40 || eqb c 41 || eqb c 63 || eqb c 42) (eqb c 94) (or_from (eqb c 45 || eqb c 124 || eqb c 58 || eqb c 33 || eqb c 44 || eqb c 47 || eqb c 40 || eqb c 41 || eqb c 63) (eqb c 42) (or_from (eqb c 45 || eqb c 124 || eqb c 58 || eqb c 33 || eqb c 44 || eqb c 47 || eqb c 40 || eqb c 41) (eqb c 63) (or_from (eqb c 45 || eqb c 124 || eqb c 58 || eqb c 33 || eqb c 44 || eqb c 47 || eqb c 40) (eqb c 41) (or_from (eqb c 45 || eqb c 124 || eqb c 58 || eqb c 33 || eqb c 44 || eqb c 47) (eqb c 40) (or_from (eqb c 45 || eqb c 124 || eqb c 58 || eqb c 33 || eqb c 44) (eqb c 47) (or_from (eqb c 45 || eqb c 124 || eqb c 58 || eqb c 33) (eqb c 44) (or_from (eqb c 45 || eqb c 124 || eqb c 58) (eqb c 33) (or_from (eqb c 45 || eqb c 124) (eqb c 58) (or_from (eqb c 45) (eqb c 124) (other_than 45 c refl h) (other_than 124 c refl h)) (other_than 58 c refl h)) (other_than 33 c refl h)) (other_than 44 c refl h)) (other_than 47 c refl h)) (other_than 40 c refl h)) (other_than 41 c refl h)) (other_than 63 c refl h)) (other_than 42 c refl h)) (other_than 94 c refl h)) (other_than 36 c refl h)))
    (other_than 46 c refl h))

pub letter_in_name : (c : ℕ) → is_letter c ≡ true → is_name_byte c ≡ true
letter_in_name c h = ap (λ x. x || nat_le 48 c && nat_le c 57 || eqb c 95) h

pub bytes_in_word : (cs : List ℕ) → list_all is_name_byte cs ≡ true → AllByRecursion (λ c. IsTrue (is_word_byte c)) cs
bytes_in_word [] h = tt
bytes_in_word (c ∷ cs) h = let p = and_parts (is_name_byte c) (list_all is_name_byte cs) h in (name_in_word c p.0, bytes_in_word cs p.1)

same : (name : List ℕ) → bytes_eq name name ≡ true
same name = (bytes_eq-Decides name name).1 refl

not_at : (name : List ℕ) (names : List (List ℕ)) (n : ℕ) → AllByRecursion (λ other. name ≡ other → ⊥) names → n < length names → name ≡ slice_index_or names n [] → ⊥
not_at name [] n h l e = absurd (omega (arith, l))
not_at name (x ∷ xs) zero h l e = h.0 e
not_at name (x ∷ xs) (suc n) h l e = not_at name xs n h.1 (omega (arith, l)) e

numbered : (names : List (List ℕ)) (n : ℕ) → AreNames names → n < length names → (is_name (slice_index_or names n []) ≡ true) × (number_of names (slice_index_or names n []) ≡ n)
unfolding number_of
numbered [] n h l = absurd (omega (arith, l))
numbered (x ∷ xs) zero h l = (h.0, ap (λ b. cond (not b) (1 + number_of xs x) 0) (same x))
numbered (x ∷ xs) (suc n) h l =
    let rest = numbered xs n h.2 (omega (arith, l)) in
    let name : List ℕ = slice_index_or xs n [] in
    let other : bytes_eq x name ≡ false = false_from_ne_true (bytes_eq x name) (λ e. not_at x xs n h.1 (omega (arith, l)) ((bytes_eq-Decides x name).0 e)) in
    let more : 1 + n ≡ suc n = omega arith in
    (rest.0, ap (λ b. cond (not b) (1 + number_of xs name) 0) other ∙ ap (λ k. 1 + k) rest.1 ∙ more)

word_of : (names : List (List ℕ)) (name : List ℕ) (n : ℕ) → is_name name ≡ true → number_of names name ≡ n → IsWordOf names (token.Set n) (64 ∷ name)
word_of names [] n h e = absurd cc
word_of names (c ∷ cs) n h e =
    let p = and_parts (is_letter c && nat_le (length cs) 31) (list_all is_name_byte cs) h in
    let q = and_parts (is_letter c) (nat_le (length cs) 31) p.0 in (
      omega arith,
      (refl, (name_in_word c (letter_in_name c q.0), bytes_in_word cs p.1)),
      ap (λ b. cond b (token.Set (number_of names (c ∷ cs))) token.Other) h ∙ ap (λ k. token.Set k) e,
    )

pub name_word : (names : List (List ℕ)) (n : ℕ) → AreNames names → n < length names → IsWordOf names (token.Set n) (set_text names n)
name_word names n h l = let both = numbered names n h l in word_of names (slice_index_or names n []) n both.0 both.1
