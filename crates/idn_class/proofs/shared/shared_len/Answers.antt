use Rattle.std.proofs.Common.{◌≡◌, ◌≢◌, ℕ, ◌+◌, ◌-◌, ◌/◌, ◌%◌, ◌^◌, ◌<◌, ◌≤◌, Bool, true, false, not, cond, eqb, List, length, map, min, take, get_or, length-take, w32, w64, refl, sym, ap, subst, ◌∙◌, inl, inr, arith}
use Rattle.std.specs.Int.{bit_at}
use Rattle.std.specs.Simd.Lanes.{chunk, mask_l, top, zip2}
use lib.Count.{count_trailing_zeros}
use Rattle.std.proofs.lemmas.Bool.{cases_lt, eqb-true, eqb-false, not-false, not-true}
use Rattle.std.proofs.lemmas.Grind.{same_number_lists}
use Rattle.std.proofs.lemmas.List.{get_or-take}
use Rattle.std.proofs.lemmas.Nat.Bits.{bit_at-trailing_zeros, bit_at_above}
use Rattle.std.proofs.lemmas.Simd.{length-chunk, get_or-chunk, length-zip2, get_or-zip2, tops_compared, mask_l-lt, mask_l-mod, bit_mask_l}
use Rattle.idn_class.specs.Shared.{IsLongestShared}
use Rattle.idn_class.proofs.shared.shared_len.Goals as goal

abbrev bit : Bool → ℕ
bit b = cond b 1 0

is_set : (b : Bool) → bit b ≡ 1 → b ≡ true
is_set true e = refl
is_set false e = absurd (omega (arith, e))

is_clear : (b : Bool) → bit b ≡ 0 → b ≡ false
is_clear true e = absurd (omega (arith, e))
is_clear false e = refl

abbrev differ : ℕ → ℕ → Bool
differ x y = not (eqb x y)

-- a bit of the mask is set where two lanes differ
module _ (a b : List ℕ) (at mask : ℕ) (in_a : at + 8 ≤ length a) (in_b : at + 8 ≤ length b)
    (is : mask ≡ mask_l (map (top 31) (zip2 (λ x y. cond (differ x y) (2 ^ 32 - 1) 0) (chunk at 8 a) (chunk at 8 b))) % 2 ^ 64)
    (before : take at a ≡ take at b) where
  abbrev lanes : List Bool
  lanes = zip2 differ (chunk at 8 a) (chunk at 8 b)

  long : length lanes ≡ 8
  long =
      length-zip2 differ (chunk at 8 a) (chunk at 8 b) (length-chunk at 8 a in_a ∙ sym (length-chunk at 8 b in_b))
      ∙ length-chunk at 8 a in_a

  masked : mask ≡ mask_l lanes
  masked =
      is
      ∙ ap (λ ms. mask_l ms % 2 ^ 64) (tops_compared w32 differ (chunk at 8 a) (chunk at 8 b))
      ∙ mask_l-mod lanes 64 (omega (arith, long))

  small : mask < 2 ^ 8
  small = rw masked (subst (λ k. mask_l lanes < 2 ^ k) long (mask_l-lt lanes))

  lane : (i : ℕ) → i < 8 → bit (differ (get_or a (at + i) 0) (get_or b (at + i) 0)) ≡ bit_at mask i
  lane i lt =
      ap (λ x. bit (differ x (get_or b (at + i) 0))) (sym (get_or-chunk at 8 a i 0 lt))
      ∙ ap (λ y. bit (differ (get_or (chunk at 8 a) i 0) y)) (sym (get_or-chunk at 8 b i 0 lt))
      ∙ ap bit (sym (get_or-zip2 differ (chunk at 8 a) (chunk at 8 b) i 0 0 false (omega (arith, lt, length-chunk at 8 a in_a)) (omega (arith, lt, length-chunk at 8 b in_b))))
      ∙ sym (bit_mask_l lanes i)
      ∙ ap (λ m. m / 2 ^ i % 2) (sym masked)

  same_lane : (i : ℕ) → i < 8 → bit_at mask i ≡ 0 → get_or a (at + i) 0 ≡ get_or b (at + i) 0
  same_lane i lt clear = eqb-true _ _ (not-false _ (is_clear _ (lane i lt ∙ clear)))

  -- what is shared goes on to the first bit that is set
  shared : (count : ℕ) → count ≤ 8 → ((i : ℕ) → i < count → bit_at mask i ≡ 0) → take (at + count) a ≡ take (at + count) b
  shared count within clear =
      same_number_lists _ _ (omega (arith, length-take (at + count) a, length-take (at + count) b, in_a, in_b, within))
      (λ k lt.
      let here : k < at + count = omega (arith, lt, length-take (at + count) a) in
      get_or-take (at + count) a k 0 here ∙ same k here ∙ sym (get_or-take (at + count) b k 0 here))
    where
      same : (k : ℕ) → k < at + count → get_or a k 0 ≡ get_or b k 0
      same k lt =
          elim (cases_lt k at) [
            | inl below ↦
                sym (get_or-take at a k 0 below) ∙ ap (λ xs. get_or xs k 0) before ∙ get_or-take at b k 0 below
            | inr from ↦
                let place : at + (k - at) ≡ k = omega (arith, from) in
                ap (λ i. get_or a i 0) (sym place)
                ∙ same_lane (k - at) (omega (arith, lt, from, within)) (clear (k - at) (omega (arith, lt, from)))
                ∙ ap (λ i. get_or b i 0) place
          ]

  none : mask ≡ 0 → take (at + 8) a ≡ take (at + 8) b
  none empty = shared 8 (omega arith) (λ i lt. ap (λ m. m / 2 ^ i % 2) empty ∙ zero_bit i)
    where
      zero_bit : (i : ℕ) → bit_at 0 i ≡ 0
      zero_bit i = bit_at_above 0 0 i (omega arith) (omega arith)

  abbrev count : ℕ
  count = count_trailing_zeros 64 mask

  module _ (some : mask ≢ 0) where
    lowest : (count < 64) × (bit_at mask count ≡ 1) × ((i : ℕ) → i < count → bit_at mask i ≡ 0)
    lowest = bit_at-trailing_zeros w64 mask (omega (arith, some)) (omega (arith, small))

    within : count < 8
    within =
        elim (cases_lt count 8) [
          | inl lt ↦ lt
          | inr ge ↦ absurd (let clear = bit_at_above mask 8 count small ge in omega (arith, lowest.1, clear))
        ]

    in_both : (at + count ≤ length a) × (at + count ≤ length b)
    in_both = (omega (arith, within, in_a), omega (arith, within, in_b))

    same : take (at + count) a ≡ take (at + count) b
    same = shared count (omega (arith, within)) lowest.2

    longest : IsLongestShared a b (at + count)
    longest n within_a within_b e =
        elim (cases_lt (at + count) n) [
          | inl lt ↦
              absurd (eqb-false _ _ (not-true _ (is_set _ (lane count within ∙ lowest.1)))
              (sym (get_or-take n a (at + count) 0 lt) ∙ ap (λ xs. get_or xs (at + count) 0) e ∙ get_or-take n b (at + count) 0 lt))
          | inr le ↦ le
        ]

room_of : (len at n : ℕ) → at ≤ len → 8 ≤ len - at → len ≤ n → at + 8 ≤ n
room_of len at n within enough le = omega (arith, within, enough, le)

-- a chunk from `at` on is in both labels
room : (a b : List ℕ) (len at : ℕ) → len ≡ min (length a) (length b) → at ≤ len → 8 ≤ len - at → (at + 8 ≤ length a) × (at + 8 ≤ length b)
room a b len at is within enough = (room_of len at (length a) within enough (omega (arith, is)), room_of len at (length b) within enough (omega (arith, is)))

pub returns-then-others-ne0-clause-same : goal.returns-then-others-ne0-clause-same
returns-then-others-ne0-clause-same c =
    let i = c.loop-at.invariant in
    let r = room c.args.a.now c.args.b.now _ _ c.min-len.ensures i.0 c.loop-at-test.true in
    same c.args.a.now c.args.b.now c.loop-at.at _ r.0 r.1 refl i.1 c.if-others-ne0.true

pub returns-then-others-ne0-clause-within_a : goal.returns-then-others-ne0-clause-within_a
returns-then-others-ne0-clause-within_a c =
    let i = c.loop-at.invariant in
    let r = room c.args.a.now c.args.b.now _ _ c.min-len.ensures i.0 c.loop-at-test.true in
    (in_both c.args.a.now c.args.b.now c.loop-at.at _ r.0 r.1 refl i.1 c.if-others-ne0.true).0

pub returns-then-others-ne0-clause-within_b : goal.returns-then-others-ne0-clause-within_b
returns-then-others-ne0-clause-within_b c =
    let i = c.loop-at.invariant in
    let r = room c.args.a.now c.args.b.now _ _ c.min-len.ensures i.0 c.loop-at-test.true in
    (in_both c.args.a.now c.args.b.now c.loop-at.at _ r.0 r.1 refl i.1 c.if-others-ne0.true).1

pub returns-then-others-ne0-clause-longest : goal.returns-then-others-ne0-clause-longest
returns-then-others-ne0-clause-longest c =
    let i = c.loop-at.invariant in
    let r = room c.args.a.now c.args.b.now _ _ c.min-len.ensures i.0 c.loop-at-test.true in
    longest c.args.a.now c.args.b.now c.loop-at.at _ r.0 r.1 refl i.1 c.if-others-ne0.true

pub loop-at-preserved : goal.loop-at-preserved
loop-at-preserved c =
    let i = c.loop-at.invariant in
    let r = room c.args.a.now c.args.b.now _ _ c.min-len.ensures i.0 c.loop-at-test.true in
    (omega (arith, i.0, c.loop-at-test.true), none c.args.a.now c.args.b.now c.loop-at.at _ r.0 r.1 refl i.1 c.if-others-ne0.false)
