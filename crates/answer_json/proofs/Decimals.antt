-- The digits of some numbers.
use Rattle.std.proofs.Common.{◌≡◌, ℕ, ◌+◌, ◌<◌, ◌≤◌, ◌/◌, ◌%◌, [], ◌∷◌, ◌++◌, decimal, ap, ◌∙◌, arith}
use Rattle.std.proofs.lemmas.Fmt.{decimal_digit, decimal_step}

two_digits : (n : ℕ) → 10 ≤ n → n < 100 → decimal n ≡ (48 + n / 10) ∷ (48 + n % 10) ∷ []
two_digits n low high = decimal_step n low (omega arith) ∙ ap (λ ds. ds ++ ((48 + n % 10) ∷ [])) (decimal_digit (n / 10) (omega arith))

pub decimal_0 : decimal 0 ≡ 48 ∷ []
decimal_0 = decimal_digit 0 (omega arith)

pub decimal_1 : decimal 1 ≡ 49 ∷ []
decimal_1 = decimal_digit 1 (omega arith)

pub decimal_2 : decimal 2 ≡ 50 ∷ []
decimal_2 = decimal_digit 2 (omega arith)

pub decimal_3 : decimal 3 ≡ 51 ∷ []
decimal_3 = decimal_digit 3 (omega arith)

pub decimal_10 : decimal 10 ≡ 49 ∷ 48 ∷ []
decimal_10 = two_digits 10 (omega arith) (omega arith)

pub decimal_12 : decimal 12 ≡ 49 ∷ 50 ∷ []
decimal_12 = two_digits 12 (omega arith) (omega arith)

pub decimal_17 : decimal 17 ≡ 49 ∷ 55 ∷ []
decimal_17 = two_digits 17 (omega arith) (omega arith)

pub decimal_19 : decimal 19 ≡ 49 ∷ 57 ∷ []
decimal_19 = two_digits 19 (omega arith) (omega arith)

pub decimal_21 : decimal 21 ≡ 50 ∷ 49 ∷ []
decimal_21 = two_digits 21 (omega arith) (omega arith)

pub decimal_30 : decimal 30 ≡ 51 ∷ 48 ∷ []
decimal_30 = two_digits 30 (omega arith) (omega arith)

pub decimal_41 : decimal 41 ≡ 52 ∷ 49 ∷ []
decimal_41 = two_digits 41 (omega arith) (omega arith)
