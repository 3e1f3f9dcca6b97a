use Rattle.std.proofs.Common.{◌≡◌, ◌≢◌, ℕ, suc, ◌+◌, ◌-◌, ◌*◌, ◌/◌, ◌%◌, ◌^◌, ◌<◌, ◌≤◌, Bool, true, false, cond, ◌==◌, eqb, List, length, map, get_or, w8, refl, sym, ap, subst, pow_mono, replicate, ◌∙◌, inl, inr, arith}
use Rattle.std.specs.Int.{bit_at}
use Rattle.std.specs.Int.Count.{count_leading_zeros}
use Rattle.std.specs.Simd.Lanes.{chunk, mask_l}
use lib.Lanes as lanes
use Rattle.std.proofs.Math.Nat.{div-lt_iff_lt-mul, two-pow-succ}
use Rattle.std.proofs.lemmas.Bool.{cases_lt, eqb-true}
use Rattle.std.proofs.lemmas.Bool.Decides.{nat_tests}
use Rattle.std.proofs.lemmas.List.{length-map, get_or-map}
use Rattle.std.proofs.lemmas.Nat.{le-div, leading_length, pow_pos}
use Rattle.std.proofs.lemmas.Nat.Bits.{bit_at_above}
use Rattle.std.proofs.lemmas.Simd.{length-chunk, get_or-chunk, mask_l-lt, bit_mask_l, bitmask_splat}
use Rattle.idna.specs.Punycode.{delimiter}
use Rattle.idn_punycode.proofs.decoding.place_in_chunk.Goals as goal

abbrev is_delimiter : ℕ → Bool
is_delimiter c = c == delimiter

abbrev bit : Bool → ℕ
bit b = cond b 1 0

is_set : (b : Bool) → bit b ≡ 1 → b ≡ true
is_set true e = refl
is_set false e = absurd (omega (arith, e))

is_clear : (b : Bool) → bit b ≡ 0 → b ≡ false
is_clear true e = absurd (omega (arith, e))
is_clear false e = refl

module _ (code : List ℕ) (at : ℕ) (room : at + 8 ≤ length code) where
  abbrev mask : ℕ
  mask = mask_l (map (lanes.top 7) (lanes.zip2 (λ a b. cond (eqb a b) 255 0) (chunk at 8 code) (replicate 8 45))) % 2 ^ 64

  is : mask ≡ mask_l (map is_delimiter (chunk at 8 code))
  is = bitmask_splat w8 eqb (chunk at 8 code) 8 45 (length-chunk at 8 code room) (omega arith)

  long : length (map is_delimiter (chunk at 8 code)) ≡ 8
  long = length-map (chunk at 8 code) is_delimiter ∙ length-chunk at 8 code room

  small : mask < 2 ^ 8
  small = rw is (subst (λ k. mask_l (map is_delimiter (chunk at 8 code)) < 2 ^ k) long (mask_l-lt (map is_delimiter (chunk at 8 code))))

  lane : (i : ℕ) → i < 8 → bit (is_delimiter (get_or code (at + i) 0)) ≡ bit_at mask i
  lane i lt =
      let v = chunk at 8 code in
      ap (λ x. bit (is_delimiter x)) (sym (get_or-chunk at 8 code i 0 lt))
      ∙ ap bit (sym (get_or-map is_delimiter v i 0 false (omega (arith, lt, length-chunk at 8 code room))))
      ∙ sym (bit_mask_l (map is_delimiter v) i)
      ∙ ap (λ m. m / 2 ^ i % 2) (sym is)

  -- the mask's digits end after the last lane that passes
  digits : (n : ℕ) × (count_leading_zeros 64 mask + n ≡ 64) × (mask < 2 ^ n) × (2 ^ n ≤ 2 * mask + 1)
  digits = leading_length 64 mask (omega (arith, small))

  counted : 64 - count_leading_zeros 64 mask ≡ digits.0
  counted = omega (arith, digits.1)

  within : digits.0 ≤ 8
  within =
      elim (cases_lt 8 digits.0) [
        | inl gt ↦ absurd (let long : 9 ≤ digits.0 = omega (arith, gt) in let most : 2 ^ 9 ≤ 2 ^ digits.0 = pow_mono long in omega (arith, small, digits.3, most))
        | inr le ↦ le
      ]

  highest : (j : ℕ) → suc j ≡ digits.0 → bit_at mask j ≡ 1
  highest j e =
      let power : 2 ^ digits.0 ≡ 2 ^ j + 2 ^ j = ap (λ n. 2 ^ n) (sym e) ∙ two-pow-succ j in
      let positive = pow_pos j in
      let least : 1 ≤ mask / 2 ^ j = le-div 1 mask (2 ^ j) positive (omega (arith, digits.3, power)) in
      let most : mask / 2 ^ j < 2 = (div-lt_iff_lt-mul {k = 2 ^ j} {x = mask} {y = 2} positive).1 (omega (arith, digits.2, power)) in
      omega (arith, least, most)

  last : 0 < digits.0 → get_or code (at + digits.0 - 1) 0 ≡ delimiter
  last some =
      let j = digits.0 - 1 in
      let place : at + j ≡ at + digits.0 - 1 = omega (arith, some) in
      ap (λ k. get_or code k 0) (sym place) ∙ eqb-true _ delimiter (is_set _ (lane j (omega (arith, within, some)) ∙ highest j (omega (arith, some))))

  others : (k : ℕ) → at + digits.0 ≤ k → k < at + 8 → is_delimiter (get_or code k 0) ≡ false
  others k le lt =
      let i = k - at in
      let place : at + i ≡ k = omega (arith, le) in
      ap (λ k. is_delimiter (get_or code k 0)) (sym place) ∙ is_clear _ (lane i (omega (arith, le, lt)) ∙ bit_at_above mask digits.0 i digits.2 (omega (arith, le)))

other : (c : ℕ) → is_delimiter c ≡ false → c ≢ delimiter
other c h = grind (arith, nat_tests, h)

pub returns : goal.returns
returns c =
    let code = c.args.code.now in
    let at = c.args.at in
    let room = c.requires in
    rw (counted code at room) record {
      within = within code at room;
      last = last code at room;
      others = λ k le lt. other _ (others code at room k le lt);
    }
