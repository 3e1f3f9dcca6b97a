-- The word of one kind.
use Rattle.std.proofs.Common.{◌≡◌, ◌≢◌, ℕ, zero, suc, ◌+◌, ◌^◌, ◌<◌, ◌≤◌, Bool, true, false, List, [], ◌∷◌, map, inl, inr, refl, ap, ◌∙◌, arith}
use Rattle.std.specs.Prelude.{◌==◌, filter, if◌then◌else◌}
use Rattle.std.specs.List.{range_with_len}
use Rattle.std.specs.Int.{bit_at}
use Rattle.std.proofs.lemmas.Bool.{cases_eq}
use Rattle.std.proofs.lemmas.Nat.Bits.{bit_at-pow_other, bit_at-pow_same}
use Rattle.variant_dispositions.specs.Kinds.{Kind, bit_of, kind_at, kinds_in}
use Rattle.variant_dispositions.proofs.KindLemmas.{kind_at-bit_of}

abbrev Test : ℕ → ℕ → Bool
Test bit b = bit_at (2 ^ bit) b == 1

same-bit : (bit : ℕ) → Test bit bit ≡ true
same-bit bit = ap (λ n. n == 1) (bit_at-pow_same bit)

other-bit : (bit b : ℕ) → b ≢ bit → Test bit b ≡ false
other-bit bit b other = ap (λ n. n == 1) (bit_at-pow_other bit b other)

-- no bit before or after it
none-kept : (bit n from : ℕ) → ((b : ℕ) → from ≤ b → b < from + n → b ≢ bit) → filter (Test bit) (range_with_len from n) ≡ []
none-kept bit zero from other = refl
none-kept bit (suc n) from other =
    ap (λ (t : Bool). if t then from ∷ filter (Test bit) (range_with_len (from + 1) n) else filter (Test bit) (range_with_len (from + 1) n)) (other-bit bit from (other from (omega arith) (omega arith)))
    ∙ none-kept bit n (from + 1) (λ b l m. other b (omega (arith, l)) (omega (arith, m)))

-- it alone is kept
one-kept : (bit n from : ℕ) → from ≤ bit → bit < from + n → filter (Test bit) (range_with_len from n) ≡ bit ∷ []
one-kept bit zero from l m = absurd (omega (arith, l, m))
one-kept bit (suc n) from l m = elim (cases_eq from bit) [
  | inl here ↦
      ap (λ (t : Bool). if t then from ∷ rest else rest) (ap (Test bit) here ∙ same-bit bit) ∙ ap (λ bs. from ∷ bs) (none-kept bit n (from + 1) (λ b k j e. omega (arith, k, e, here))) ∙ ap (λ b. b ∷ []) here
  | inr later ↦
      ap (λ (t : Bool). if t then from ∷ rest else rest) (other-bit bit from later) ∙ one-kept bit n (from + 1) (omega (arith, l, later)) (omega (arith, m))
]
  where
    rest : List ℕ
    rest = filter (Test bit) (range_with_len (from + 1) n)

pub kinds_in-one : (kind : Kind) (word : ℕ) → bit_of kind < 64 → word ≡ 2 ^ bit_of kind → kinds_in word ≡ kind ∷ []
unfolding kinds_in
kinds_in-one kind word inside is =
    ap (λ w. map kind_at (filter (λ b. bit_at w b == 1) (range_with_len 0 64))) is ∙ ap (map kind_at) (one-kept (bit_of kind) 64 0 (omega arith) (omega (arith, inside))) ∙ ap (λ k. k ∷ []) (kind_at-bit_of kind)
