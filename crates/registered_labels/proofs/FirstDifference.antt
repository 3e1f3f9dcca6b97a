-- The first place where two lists of bytes differ decides their order; and it is the lowest bit of a mask.
use Rattle.std.proofs.Common.{◌≡◌, ◌≢◌, ℕ, zero, suc, ◌+◌, ◌/◌, ◌%◌, ◌^◌, ◌<◌, ◌≤◌, Bool, true, false, not, cond, eqb, List, [], ◌∷◌, length, map, take, drop, get_or, length-take, w8, w64, refl, sym, ap, subst, ◌∙◌, inl, inr, arith}
use Rattle.std.specs.Int.{bit_at}
use Rattle.std.specs.Ordering.{nat_cmp, ordering_then}
use Rattle.std.specs.Simd.Lanes.{chunk, mask_l, top, zip2}
use Rattle.std.specs.declared.cmp.Ordering.TheVariants.{Less, Equal, Greater}
use lib.Count.{count_trailing_zeros}
use Rattle.std.proofs.lemmas.Bool.{cases_lt, cases_order, eqb-true, eqb-false, not-false, not-true}
use Rattle.std.proofs.lemmas.Bool.Decides.{nat_tests}
use Rattle.std.proofs.lemmas.Grind.{same_number_lists}
use Rattle.std.proofs.lemmas.List.{get_or-take}
use Rattle.std.proofs.lemmas.Nat.Bits.{bit_at-trailing_zeros, bit_at_above}
use Rattle.std.proofs.lemmas.Simd.{length-chunk, get_or-chunk, length-zip2, get_or-zip2, tops_compared, mask_l-lt, mask_l-mod, bit_mask_l}
use Rattle.variant_list.specs.Labels.{label_cmp}

-- ---- the order

pub less : (a b : ℕ) → a < b → nat_cmp a b ≡ Less
less a b l = grind (arith, nat_tests)

pub greater : (a b : ℕ) → b < a → nat_cmp a b ≡ Greater
greater a b l = grind (arith, nat_tests)

tied : (a b : ℕ) → a ≡ b → nat_cmp a b ≡ Equal
tied a b e = grind (arith, nat_tests)

by_first : (x y : ℕ) (v w : List ℕ) → x ≢ y → label_cmp (x ∷ v) (y ∷ w) ≡ nat_cmp x y
by_first x y v w differs =
    elim (cases_order x y) [
      | inl same ↦ absurd (differs same)
      | inr (inl lt) ↦ ap (λ o. ordering_then o (label_cmp v w)) (less x y lt) ∙ sym (less x y lt)
      | inr (inr gt) ↦ ap (λ o. ordering_then o (label_cmp v w)) (greater x y gt) ∙ sym (greater x y gt)
    ]

pub first_decides : (v w : List ℕ) (at : ℕ) → at < length v → at < length w → take at v ≡ take at w → get_or v at 0 ≢ get_or w at 0 → label_cmp v w ≡ nat_cmp (get_or v at 0) (get_or w at 0)
first_decides [] w at in_v in_w same differs = absurd (omega (arith, in_v))
first_decides (x ∷ v) [] at in_v in_w same differs = absurd (omega (arith, in_w))
first_decides (x ∷ v) (y ∷ w) zero in_v in_w same differs = by_first x y v w differs
first_decides (x ∷ v) (y ∷ w) (suc at) in_v in_w same differs =
    let first : x ≡ y = ap (λ l. get_or l 0 0) same in
    let rest : take at v ≡ take at w = ap (drop 1) same in
    ap (λ o. ordering_then o (label_cmp v w)) (tied x y first) ∙ first_decides v w at (omega (arith, in_v)) (omega (arith, in_w)) rest differs

-- ---- the mask

abbrev bit : Bool → ℕ
bit b = cond b 1 0

is_set : (b : Bool) → bit b ≡ 1 → b ≡ true
is_set true e = refl
is_set false e = absurd (omega (arith, e))

is_clear : (b : Bool) → bit b ≡ 0 → b ≡ false
is_clear true e = absurd (omega (arith, e))
is_clear false e = refl

abbrev differ : ℕ → ℕ → Bool
differ x y = not (eqb x y)

-- a bit of the mask is set where two lanes differ
module _ (a b : List ℕ) (mask : ℕ) (in_a : 16 ≤ length a) (in_b : 16 ≤ length b)
    (is : mask ≡ mask_l (map (top 7) (zip2 (λ x y. cond (differ x y) 255 0) (chunk 0 16 a) (chunk 0 16 b))) % 2 ^ 64)
    (some : mask ≢ 0) where
  abbrev lanes : List Bool
  lanes = zip2 differ (chunk 0 16 a) (chunk 0 16 b)

  long_a : length (chunk 0 16 a) ≡ 16
  long_a = length-chunk 0 16 a (omega (arith, in_a))

  long_b : length (chunk 0 16 b) ≡ 16
  long_b = length-chunk 0 16 b (omega (arith, in_b))

  long : length lanes ≡ 16
  long = length-zip2 differ (chunk 0 16 a) (chunk 0 16 b) (long_a ∙ sym long_b) ∙ long_a

  masked : mask ≡ mask_l lanes
  masked =
      is
      ∙ ap (λ ms. mask_l ms % 2 ^ 64) (tops_compared w8 differ (chunk 0 16 a) (chunk 0 16 b))
      ∙ mask_l-mod lanes 64 (omega (arith, long))

  small : mask < 2 ^ 16
  small = rw masked (subst (λ k. mask_l lanes < 2 ^ k) long (mask_l-lt lanes))

  lane : (i : ℕ) → i < 16 → bit (differ (get_or a i 0) (get_or b i 0)) ≡ bit_at mask i
  lane i lt =
      let place : 0 + i ≡ i = omega arith in
      ap (λ x. bit (differ x (get_or b i 0))) (sym (get_or-chunk 0 16 a i 0 lt ∙ ap (λ k. get_or a k 0) place))
      ∙ ap (λ y. bit (differ (get_or (chunk 0 16 a) i 0) y)) (sym (get_or-chunk 0 16 b i 0 lt ∙ ap (λ k. get_or b k 0) place))
      ∙ ap bit (sym (get_or-zip2 differ (chunk 0 16 a) (chunk 0 16 b) i 0 0 false (omega (arith, lt, long_a)) (omega (arith, lt, long_b))))
      ∙ sym (bit_mask_l lanes i)
      ∙ ap (λ m. m / 2 ^ i % 2) (sym masked)

  abbrev count : ℕ
  count = count_trailing_zeros 64 mask

  lowest : (count < 64) × (bit_at mask count ≡ 1) × ((i : ℕ) → i < count → bit_at mask i ≡ 0)
  lowest = bit_at-trailing_zeros w64 mask (omega (arith, some)) (omega (arith, small))

  pub in_chunk : count < 16
  in_chunk =
      elim (cases_lt count 16) [
        | inl lt ↦ lt
        | inr ge ↦ absurd (let clear = bit_at_above mask 16 count small ge in omega (arith, lowest.1, clear))
      ]

  pub same_before : take count a ≡ take count b
  same_before =
      same_number_lists _ _ (omega (arith, length-take count a, length-take count b, in_a, in_b, in_chunk))
      (λ k lt.
      let here : k < count = omega (arith, lt, length-take count a) in
      get_or-take count a k 0 here
      ∙ eqb-true _ _ (not-false _ (is_clear _ (lane k (omega (arith, here, in_chunk)) ∙ lowest.2 k here)))
      ∙ sym (get_or-take count b k 0 here))

  pub differs_there : get_or a count 0 ≢ get_or b count 0
  differs_there = eqb-false _ _ (not-true _ (is_set _ (lane count in_chunk ∙ lowest.1)))
