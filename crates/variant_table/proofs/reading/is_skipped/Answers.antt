use Rattle.std.proofs.Common.{◌≡◌, ◌∙◌, sym, ap, ℕ, List, [], ◌∷◌, true, Some, None, eqb, cond, drop, refl}
use Rattle.std.specs.Prelude.{slice_get}
use Rattle.variant_table.specs.Reading.{is_skipped}
use Rattle.variant_table.proofs.SkipLemmas.{is_skipped-blanks}
use Rattle.variant_table.proofs.reading.is_skipped.Goals as goal
use Rattle.ruleset_text.proofs.LexemeLemmas.{first_place, is_blank-first}

none_first : (front : List ℕ) → None ≡ slice_get front 0 → true ≡ is_skipped front
none_first [] e = refl
none_first (c ∷ cs) e = absurd cc

some_first : (line front : List ℕ) (c : ℕ) → front ≡ drop (first_place line) line → Some c ≡ slice_get front 0 → eqb c 35 ≡ is_skipped front
some_first line [] c e f = absurd cc
some_first line (d ∷ ds) c e f =
    let same : c ≡ d = cc in
    ap (λ x. eqb x 35) same ∙ sym (ap (λ b. cond b (is_skipped ds) (eqb d 35)) (is_blank-first line d ds (sym e)))

pub returns-in-None : goal.returns-in-None
returns-in-None c = none_first c.without_blanks.result.now c.in-None.ensures.value ∙ ap is_skipped c.without_blanks.ensures.is ∙ sym (is_skipped-blanks c.args.line.now)

pub returns-in-Some : goal.returns-in-Some
returns-in-Some c =
    some_first c.args.line.now c.without_blanks.result.now c.in-Some.first.now c.without_blanks.ensures.is c.in-Some.ensures.value ∙ ap is_skipped c.without_blanks.ensures.is ∙ sym (is_skipped-blanks c.args.line.now)
