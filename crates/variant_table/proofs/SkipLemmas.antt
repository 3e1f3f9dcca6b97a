-- A blank line or a comment.
use Rattle.std.proofs.Common.{◌≡◌, ℕ, suc, ◌+◌, Bool, true, false, not, cond, eqb, List, [], ◌∷◌, drop, refl, ap, ◌∙◌, arith}
use Rattle.variant_table.specs.Reading.{is_skipped}
use Rattle.ruleset_text.specs.Lexemes.{is_blank}
use Rattle.ruleset_text.proofs.LexemeLemmas.{first_place}

skipped_step : (c : ℕ) (cs : List ℕ) (b : Bool) → is_blank c ≡ b → is_skipped cs ≡ is_skipped (drop (first_place cs) cs) → is_skipped (c ∷ cs) ≡ is_skipped (drop (cond (not (not b)) (1 + first_place cs) 0) (c ∷ cs))
skipped_step c cs true e rest =
    ap (λ b. cond b (is_skipped cs) (eqb c 35)) e ∙ rest ∙ ap (λ n. is_skipped (drop n (c ∷ cs))) (let one : suc (first_place cs) ≡ 1 + first_place cs = omega arith in one)
skipped_step c cs false e rest = refl

pub is_skipped-blanks : (line : List ℕ) → is_skipped line ≡ is_skipped (drop (first_place line) line)
is_skipped-blanks [] = refl
is_skipped-blanks (c ∷ cs) = skipped_step c cs (is_blank c) refl (is_skipped-blanks cs)
