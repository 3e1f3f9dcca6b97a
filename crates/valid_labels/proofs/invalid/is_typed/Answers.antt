use Rattle.std.proofs.Common.{◌≡◌, ◌+◌, ltb, sym, ap, ◌∙◌, arith}
use Rattle.std.specs.Prelude.{◌==◌}
use Rattle.std.specs.Int.{bit_at}
use Rattle.std.proofs.lemmas.Bool.{false_from_ne_true, ltb-true}
use Rattle.std.proofs.lemmas.Bool.Decides.{Decides-eqb}
use Rattle.std.proofs.lemmas.Nat.Bits.{bit_at_above}
use Rattle.reading_kinds.proofs.CellLemmas.{bit_test}
use Rattle.valid_labels.specs.Causes.{is_typed as has_type}
use Rattle.valid_labels.proofs.MostLemmas.{same-test}
use Rattle.valid_labels.proofs.invalid.is_typed.Goals as goal

pub returns-then-number-lt62 : goal.returns-then-number-lt62
returns-then-number-lt62 c =
    let types = c.args.types in
    let bit = c.in-Some.number + 2 in
    let within = c.if-number-lt62.true in
    same-test _ (bit_at types bit == 1) (bit_at types bit ≡ 1) (bit_test types bit (omega (arith, within))) (Decides-eqb (bit_at types bit) 1)
    ∙ ap (has_type types) (sym c.in-Some.is)

pub returns-else-number-lt62 : goal.returns-else-number-lt62
returns-else-number-lt62 c =
    let types = c.args.types in
    let number = c.in-Some.number in
    let beyond = c.if-number-lt62.false in
    let none : bit_at types (number + 2) ≡ 0 = bit_at_above types 64 (number + 2) c.ranges.types.fits (omega (arith, beyond)) in
    false_from_ne_true (ltb number 62) (λ t. (let l = ltb-true number 62 t in omega (arith, l, beyond)))
    ∙ ap (λ b. b == 1) (sym none) ∙ ap (has_type types) (sym c.in-Some.is)
