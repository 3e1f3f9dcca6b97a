-- Sets of places, bit by bit.
use Rattle.std.proofs.Common.{◌≡◌, ℕ, zero, suc, ◌+◌, ◌-◌, ◌*◌, ◌/◌, ◌%◌, ◌^◌, ◌<◌, ◌≤◌, ◌⊎◌, inl, inr, Bool, List, length, sym, ap, subst, ◌∙◌, arith, bit_and, bit_or}
use Rattle.std.specs.Int.{bit_at, trailing_zeros, w64}
use Rattle.std.specs.Prelude.{◌↔◌, IsTrue, slice_index}
use Rattle.std.proofs.lemmas.Bool.{cases_order}
use Rattle.std.proofs.lemmas.Nat.{pow_below}
use Rattle.std.proofs.lemmas.Nat.Bits.{bit_at_and, bit_at_or, bit_at-lt, bit_at_cat_low, bit_at_cat_high, bit_at-pow_same, bit_at-pow_other, bit_at-zero, bit_at_above, bit_at_not, bit_at_ones, bit_at_ones_above, bit_at-trailing_zeros, shr_and_one}
use Rattle.label_patterns.specs.Places.{Has, AreThePlaces}

pub Has-and : (a b p : ℕ) → Has (bit_and a b) p → Has a p × Has b p
Has-and a b p h =
    let e = bit_at_and a b p in let x = bit_at-lt a p in let y = bit_at-lt b p in
    (omega (arith, h, e, x, y), omega (arith, h, e, x, y))

pub Has-both : (a b p : ℕ) → Has a p → Has b p → Has (bit_and a b) p
Has-both a b p h k = let e = bit_at_and a b p in omega (arith, h, k, e)

pub Has-or : (a b p : ℕ) → Has (bit_or a b) p → Has a p ⊎ Has b p
Has-or a b p h = elim (cases_order (bit_at a p) 1) [
  | inl e ↦ inl e
  | inr o ↦ elim o [
    | inl less ↦ inr (let e = bit_at_or a b p in let y = bit_at-lt b p in omega (arith, h, e, less, y))
    | inr more ↦ absurd (let x = bit_at-lt a p in omega (arith, x, more))
  ]
]

pub Has-left : (a b p : ℕ) → Has a p → Has (bit_or a b) p
Has-left a b p h = let e = bit_at_or a b p in let y = bit_at-lt b p in omega (arith, h, e, y)

pub Has-right : (a b p : ℕ) → Has b p → Has (bit_or a b) p
Has-right a b p h = let e = bit_at_or a b p in let x = bit_at-lt a p in omega (arith, h, e, x)

-- the places of a word that are not in another
pub Has-without : (l r p : ℕ) → l < 2 ^ 64 → r < 2 ^ 64 → Has (bit_and l (18446744073709551615 - r)) p ↔ (Has l p × (Has r p → ⊥))
Has-without l r p left right =
    let inside : Has l p → p < 64 = λ h. elim (cases_order p 64) [
      | inl e ↦ absurd (let z = bit_at_above l 64 p left (omega (arith, e)) in omega (arith, z, h))
      | inr o ↦ elim o [ inl less ↦ less | inr more ↦ absurd (let z = bit_at_above l 64 p left (omega (arith, more)) in omega (arith, z, h)) ]
    ] in
    let other : p < 64 → bit_at (18446744073709551615 - r) p ≡ 1 - bit_at r p = λ small. bit_at_not w64 r p right small in (
      λ h. let both = Has-and l (18446744073709551615 - r) p h in (both.0, λ k. (let e = other (inside both.0) in omega (arith, e, both.1, k))),
      λ h. Has-both l (18446744073709551615 - r) p h.0 (elim (cases_order (bit_at r p) 1) [
        | inl one ↦ absurd (h.1 one)
        | inr o ↦ (let e = other (inside h.0) in let x = bit_at-lt r p in elim o [ inl less ↦ omega (arith, e, less) | inr more ↦ absurd (omega (arith, x, more)) ])
      ]),
    )

-- twice a number has its bits one place higher
pub twice-up : (n p : ℕ) → Has n p → Has (n * 2) (p + 1)
twice-up n p h =
    let e : bit_at (n * 2 ^ 1 + 0) (p + 1) ≡ bit_at n (p + 1 - 1) = bit_at_cat_high n 1 0 (p + 1) (omega arith) (omega arith) in
    let f : p + 1 - 1 ≡ p = omega arith in
    ap (λ m. bit_at m (p + 1)) (omega arith) ∙ e ∙ ap (bit_at n) f ∙ h

pub twice-down : (n q : ℕ) → Has (n * 2) q → (p : ℕ) × Has n p × (q ≡ p + 1)
twice-down n zero h =
    absurd (let e : bit_at (n * 2 ^ 1 + 0) 0 ≡ bit_at 0 0 = bit_at_cat_low n 1 0 0 (omega arith) in
    let z = bit_at-zero 0 in
    let s : bit_at (n * 2) 0 ≡ bit_at (n * 2 ^ 1 + 0) 0 = ap (λ m. bit_at m 0) (omega arith) in
    omega (arith, sym h ∙ s ∙ e ∙ z))
twice-down n (suc p) h =
    let e : bit_at (n * 2 ^ 1 + 0) (suc p) ≡ bit_at n (suc p - 1) = bit_at_cat_high n 1 0 (suc p) (omega arith) (omega arith) in
    let f : suc p - 1 ≡ p = omega arith in
    let s : bit_at (n * 2) (suc p) ≡ bit_at (n * 2 ^ 1 + 0) (suc p) = ap (λ m. bit_at m (suc p)) (omega arith) in
    (p, ap (bit_at n) (sym f) ∙ sym e ∙ sym s ∙ h, omega arith)

-- a power of 2 has one bit
pub one_bit : (place p : ℕ) → Has (2 ^ place) p → p ≡ place
one_bit place p h = elim (cases_order p place) [
  | inl e ↦ e
  | inr o ↦ absurd (let z = bit_at-pow_other place p (λ e. elim o [ inl l ↦ omega (arith, l, e) | inr g ↦ omega (arith, g, e) ]) in omega (arith, z, h))
]

-- the set with the place
pub Has-with : (places place p : ℕ) → place < 64 → Has (bit_or places (1 * 2 ^ place % 18446744073709551616)) p ↔ (Has places p ⊎ (p ≡ place))
Has-with places place p small =
    let below : 2 ^ place < 2 ^ 64 = pow_below place 64 small in
    let whole : 1 * 2 ^ place % 18446744073709551616 ≡ 2 ^ place = omega (arith, below) in
    let P : ℕ → Type 0 = λ n. Has (bit_or places n) p in (
      λ h. elim (Has-or places (2 ^ place) p (subst P whole h)) [ inl k ↦ inl k | inr k ↦ inr (one_bit place p k) ],
      λ h. subst P (sym whole) (elim h [
        | inl k ↦ Has-left places (2 ^ place) p k
        | inr e ↦ Has-right places (2 ^ place) p (subst (Has (2 ^ place)) (sym e) (bit_at-pow_same place))
      ]),
    )

-- all places up to one
pub Has-all : (len last p : ℕ) → last ≡ 2 ^ len → Has (bit_or last (last - 1)) p ↔ (p ≤ len)
Has-all len last p is =
    let P : ℕ → Type 0 = λ n. Has (bit_or n (n - 1)) p in (
      λ h. elim (Has-or (2 ^ len) (2 ^ len - 1) p (subst P is h)) [
        | inl k ↦ omega (arith, one_bit len p k)
        | inr k ↦ elim (cases_order p len) [
          | inl e ↦ omega (arith, e)
          | inr o ↦ elim o [
            | inl less ↦ omega (arith, less)
            | inr more ↦ absurd (let z = bit_at_ones_above len p (omega (arith, more)) in omega (arith, z, k))
          ]
        ]
      ],
      λ l. subst P (sym is) (elim (cases_order p len) [
        | inl e ↦ Has-left (2 ^ len) (2 ^ len - 1) p (subst (Has (2 ^ len)) (sym e) (bit_at-pow_same len))
        | inr o ↦ elim o [
          | inl less ↦ Has-right (2 ^ len) (2 ^ len - 1) p (bit_at_ones len p less)
          | inr more ↦ absurd (omega (arith, l, more))
        ]
      ]),
    )

-- the set has those places below one at which such a code point stands
abbrev pub ArePlacesBelow : (ℕ → Bool) → List ℕ → ℕ → ℕ → Type 0
ArePlacesBelow test label place places = (i : ℕ) → Has places i ↔ ((i < place) × IsTrue (test (slice_index label i)))

pub no-places : (test : ℕ → Bool) (label : List ℕ) → ArePlacesBelow test label 0 0
no-places test label i = (λ h. absurd (let z = bit_at-zero i in omega (arith, z, h)), λ h. absurd (omega (arith, h.0)))

pub more-places : (test : ℕ → Bool) (label : List ℕ) (place places more : ℕ) → ArePlacesBelow test label place places
    → ((p : ℕ) → Has more p ↔ (Has places p ⊎ (IsTrue (test (slice_index label place)) × (p ≡ place))))
    → ArePlacesBelow test label (place + 1) more
more-places test label place places more before with_place i =
    let P : ℕ → Type 0 = λ q. IsTrue (test (slice_index label q)) in (
      λ h. elim ((with_place i).0 h) [
        | inl k ↦ (let b = (before i).0 k in (omega (arith, b.0), b.1))
        | inr k ↦ (omega (arith, k.1), subst P (sym k.1) k.0)
      ],
      λ h. elim (cases_order i place) [
        | inl e ↦ (with_place i).1 (inr (subst P e h.1, e))
        | inr o ↦ elim o [
          | inl less ↦ (with_place i).1 (inl ((before i).1 (less, h.1)))
          | inr more ↦ absurd (omega (arith, h.0, more))
        ]
      ],
    )

pub all-places : (test : ℕ → Bool) (label : List ℕ) (place places : ℕ) → place ≡ length label → ArePlacesBelow test label place places → AreThePlaces test label places
all-places test label place places e below = subst (λ n. ArePlacesBelow test label n places) e below

pub not-in-none : (p : ℕ) → Has 0 p → ⊥
not-in-none p h = let z = bit_at-zero p in omega (arith, z, h)

-- the places below one
pub Has-below : (len last p : ℕ) → last ≡ 2 ^ len → Has (last - 1) p ↔ (p < len)
Has-below len last p is =
    let P : ℕ → Type 0 = λ n. Has (n - 1) p in (
      λ h. elim (cases_order p len) [
        | inl e ↦ absurd (let z = bit_at_ones_above len p (omega (arith, e)) in omega (arith, z, subst P is h))
        | inr o ↦ elim o [
          | inl less ↦ less
          | inr more ↦ absurd (let z = bit_at_ones_above len p (omega (arith, more)) in omega (arith, z, subst P is h))
        ]
      ],
      λ l. subst P (sym is) (bit_at_ones len p l),
    )

-- a word without the last place
pub without-last : (m : ℕ) → m < 18446744073709551616 → (Has m 63 → ⊥) → m < 9223372036854775808
without-last m l none = elim (cases_order m 9223372036854775808) [
  | inl e ↦ absurd (none (omega (arith, e)))
  | inr o ↦ elim o [
    | inl less ↦ less
    | inr more ↦ absurd (none (omega (arith, more, l)))
  ]
]

-- a set that isn't empty has a place
pub some-place : (n : ℕ) → n < 18446744073709551616 → (n ≡ 0 → ⊥) → (p : ℕ) × Has n p
some-place n l some = let t = bit_at-trailing_zeros w64 n (omega (arith, some)) l in (trailing_zeros w64 n, t.1)

pub has-test : (n p : ℕ) → bit_and (n / 2 ^ p) 1 ≡ bit_at n p
has-test n p = shr_and_one n p
