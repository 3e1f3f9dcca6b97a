-- A name is a word.
use Rattle.std.proofs.Common.{◌≡◌, ℕ, ◌<◌, true, ◌&&◌, List, [], ◌∷◌, length, arith}
use Rattle.std.specs.Prelude.{IsTrue, nat_le}
use Rattle.std.specs.List.{AllByRecursion, list_all}
use Rattle.std.proofs.lemmas.Bool.{and_parts}
use Rattle.ruleset_text.specs.Lexemes.{is_word_byte}
use Rattle.ruleset_text.specs.Names.{is_letter, is_name_byte, is_name}
use Rattle.ruleset_text.proofs.SetWordLemmas.{name_in_word, letter_in_name, bytes_in_word}

pub record IsNameWord (name : List ℕ) : Type 0 where
  pub some : 0 < length name
  pub word : AllByRecursion (λ c. IsTrue (is_word_byte c)) name

pub name_word : (name : List ℕ) → is_name name ≡ true → IsNameWord name
name_word [] is = absurd (cc)
name_word (c ∷ cs) is =
    let parts = and_parts (is_letter c && nat_le (length cs) 31) (list_all is_name_byte cs) is in
    let letter = (and_parts (is_letter c) (nat_le (length cs) 31) parts.0).0 in
    let byte : is_name_byte c ≡ true = letter_in_name c letter in record {
      some = omega arith;
      word = (name_in_word c byte, bytes_in_word cs parts.1);
    }
