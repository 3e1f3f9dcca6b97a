use Rattle.std.proofs.Common.{◌≡◌, ℕ, ◌+◌, ◌-◌, ◌^◌, ◌<◌, w64, sym, subst, arith, ◌∙◌}
use Rattle.std.specs.Int.{bit_at, trailing_ones}
use Rattle.std.proofs.lemmas.Nat.Bits.{bit_at_ones, bit_at-trailing_ones}
use Rattle.valid_labels.proofs.cutting.SingleSteps.run.Goals as goal

-- the lowest zero of a number, and the ones below it
lowest-zero : (n : ℕ) → n < 2 ^ 64 → (n ≡ 2 ^ 64 - 1 → ⊥) → (bit_at n (trailing_ones w64 n) ≡ 0) × ((i : ℕ) → i < trailing_ones w64 n → bit_at n i ≡ 1)
lowest-zero n small other = let told = bit_at-trailing_ones w64 n (omega (arith, small, other)) in (told.1, told.2)

pub returns-clause-leads : goal.returns-clause-leads
returns-clause-leads c place l =
    let n : ℕ = c.both.result in
    let other : n ≡ 2 ^ 64 - 1 → ⊥ = λ e. c.requires ((c.both.ensures 63).0 (subst (λ (m : ℕ). bit_at m 63 ≡ 1) (sym e) (bit_at_ones 64 63 (omega arith)))).0 in
    (c.both.ensures place).0 ((lowest-zero n c.both.type_inv other).1 place (subst (λ (m : ℕ). place < m) c.trailing_ones.ensures l))

pub returns-clause-ends : goal.returns-clause-ends
returns-clause-ends c = λ h.
    let n : ℕ = c.both.result in
    let other : n ≡ 2 ^ 64 - 1 → ⊥ = λ e. c.requires ((c.both.ensures 63).0 (subst (λ (m : ℕ). bit_at m 63 ≡ 1) (sym e) (bit_at_ones 64 63 (omega arith)))).0 in
    let zero : bit_at n (trailing_ones w64 n) ≡ 0 = (lowest-zero n c.both.type_inv other).0 in
    let one : bit_at n (trailing_ones w64 n) ≡ 1 = subst (λ (m : ℕ). bit_at n m ≡ 1) c.trailing_ones.ensures ((c.both.ensures _).1 h) in
    let clash : 0 ≡ 1 = sym zero ∙ one in
    omega (arith, clash)
