-- Kinds and the bits of words.
use Rattle.std.proofs.Common.{◌≡◌, ◌↔◌, ◌⊎◌, inl, inr, ℕ, zero, suc, ◌-◌, ◌^◌, ◌<◌, true, List, [], ◌∷◌, refl, sym, ap, ◌∙◌, arith}
use Rattle.std.specs.Prelude.{◌==◌, bit_and, filter}
use Rattle.std.specs.List.{Contains, range_with_len}
use Rattle.std.specs.Int.{bit_at, bit_not, w64, trailing_zeros}
use Rattle.std.proofs.lemmas.Bool.Decides.{Decides-eqb}
use Rattle.std.proofs.lemmas.Bool.{cases_eq}
use Rattle.std.proofs.lemmas.List.Elements.{Contains-append_cases, Contains-append_left, Contains-append_right}
use Rattle.std.proofs.lemmas.Nat.{and_le_l}
use Rattle.std.proofs.lemmas.Nat.Bits.{bit_at-lt, bit_at-trailing_zeros, bit_at-zero, bit_at_and, bit_at_not}
use Rattle.reading_kinds.specs.Readings.{Substitution, HasKind}
use Rattle.reading_kinds.proofs.ListMembers.{Contains-filter, Contains-none}
use Rattle.variant_dispositions.specs.Kinds.{Kind, bit_of, kind_at, kinds_in, recorded}
use Rattle.variant_dispositions.specs.Kinds.Kind.{Unmapped, Untyped, Typed}
use Rattle.variant_dispositions.proofs.MemberLemmas.{Contains-map, Contains-range}

pub kind_at-bit_of : (kind : Kind) → kind_at (bit_of kind) ≡ kind
kind_at-bit_of Unmapped = refl
kind_at-bit_of Untyped = refl
kind_at-bit_of (Typed number) = refl

bit_of-kind_at : (bit : ℕ) → bit_of (kind_at bit) ≡ bit
bit_of-kind_at zero = refl
bit_of-kind_at (suc zero) = refl
bit_of-kind_at (suc (suc number)) = refl

-- the kinds of a word
pub Contains-kinds_in : (word bit : ℕ) → Contains (kinds_in word) (kind_at bit) ↔ ((bit < 64) × (bit_at word bit ≡ 1))
unfolding kinds_in
Contains-kinds_in word bit =
    let kept = filter (λ b. bit_at word b == 1) (range_with_len 0 64) in
    let mapped = Contains-map kind_at kept (kind_at bit) in
    let filtered = Contains-filter (λ (b : ℕ). bit_at word b == 1) (range_with_len 0 64) in
    let decided = Decides-eqb (bit_at word bit) 1 in (
      λ c.
          let g = mapped.0 c in
          let same : g.0 ≡ bit = sym (bit_of-kind_at g.0) ∙ ap bit_of (sym g.2) ∙ bit_of-kind_at bit in
          let h = (filtered g.0).0 g.1 in
          let inside = ((Contains-range 0 64 g.0).0 h.0).1 in
          (omega (arith, inside, same), ap (bit_at word) (sym same) ∙ (Decides-eqb (bit_at word g.0) 1).0 h.1),
      λ h. mapped.1 (bit, (filtered bit).1 ((Contains-range 0 64 bit).1 (omega arith, omega (arith, h.0)), decided.1 h.1), refl),
    )

-- what a reading records
pub Contains-recorded : (reading : List Substitution) (bit : ℕ) → Contains (recorded reading) (kind_at bit) ↔ ((bit < 64) × HasKind reading bit)
Contains-recorded [] bit = (λ c. absurd (Contains-none (kind_at bit) c), λ h. absurd h.1)
Contains-recorded (u ∷ reading) bit =
    let here = Contains-kinds_in u.kinds bit in
    let later = Contains-recorded reading bit in (
      λ c. elim (Contains-append_cases (kinds_in u.kinds) (recorded reading) (kind_at bit) c) [
        | inl h ↦ (let g = here.0 h in (g.0, inl g.1))
        | inr h ↦ (let g = later.0 h in (g.0, inr g.1))
      ],
      λ h. elim h.1 [
        | inl one ↦ Contains-append_left (kinds_in u.kinds) (recorded reading) (kind_at bit) (here.1 (h.0, one))
        | inr rest ↦ Contains-append_right (kinds_in u.kinds) (recorded reading) (kind_at bit) (later.1 (h.0, rest))
      ],
    )

-- a reading has a kind or doesn't
pub HasKind-or_not : (reading : List Substitution) (bit : ℕ) → HasKind reading bit ⊎ (HasKind reading bit → ⊥)
HasKind-or_not [] bit = inr (λ h. h)
HasKind-or_not (u ∷ reading) bit = elim (cases_eq (bit_at u.kinds bit) 1) [
  | inl one ↦ inl (inl one)
  | inr other ↦ elim (HasKind-or_not reading bit) [
    | inl later ↦ inl (inr later)
    | inr none ↦ inr (λ h. elim h [ inl one ↦ other one | inr later ↦ none later ])
  ]
]

-- ---- words

-- a word that isn't 0 has a bit
pub bit-some : (word : ℕ) → word < 2 ^ 64 → (word ≡ 0 → ⊥) → (bit : ℕ) × (bit < 64) × (bit_at word bit ≡ 1)
bit-some word l h =
    let t = bit_at-trailing_zeros w64 word (omega (arith, h)) l in
    (trailing_zeros w64 word, t.0, t.1)

pub bit-none : (word bit : ℕ) → word ≡ 0 → bit_at word bit ≡ 1 → ⊥
bit-none word bit none one = let z : bit_at word bit ≡ 0 = ap (λ w. bit_at w bit) none ∙ bit_at-zero bit in omega (arith, z, one)

pub both-bits : (word other bit : ℕ) → (bit_at (bit_and word other) bit ≡ 1) ↔ ((bit_at word bit ≡ 1) × (bit_at other bit ≡ 1))
both-bits word other bit =
    let e = bit_at_and word other bit in
    let a = bit_at-lt word bit in
    let b = bit_at-lt other bit in (
      λ h. (omega (arith, e, a, b, h), omega (arith, e, a, b, h)),
      λ h. omega (arith, e, h.0, h.1),
    )

pub bit-not : (word bit : ℕ) → word < 2 ^ 64 → bit < 64 → (bit_at (bit_not w64 word) bit ≡ 1) ↔ (bit_at word bit ≡ 1 → ⊥)
bit-not word bit l b =
    let e : bit_at (bit_not w64 word) bit ≡ 1 - bit_at word bit = bit_at_not w64 word bit l b in
    let small = bit_at-lt word bit in (
      λ h one. omega (arith, e, h, one),
      λ h. elim (cases_eq (bit_at word bit) 1) [ inl one ↦ absurd (h one) | inr other ↦ omega (arith, e, small, other) ],
    )

-- nothing is left of a word where a set is taken from it, exactly if the set has all of its bits
pub left-none : (word set : ℕ) → word < 2 ^ 64 → set < 2 ^ 64 → (bit_and word (bit_not w64 set) ≡ 0) ↔ ((bit : ℕ) → bit < 64 → bit_at word bit ≡ 1 → bit_at set bit ≡ 1)
left-none word set w s = (
  λ none bit l one. elim (cases_eq (bit_at set bit) 1) [
    | inl there ↦ there
    | inr other ↦ absurd (bit-none (bit_and word (bit_not w64 set)) bit none ((both-bits word (bit_not w64 set) bit).1 (one, (bit-not set bit s l).1 other)))
  ],
  λ all. elim (cases_eq (bit_and word (bit_not w64 set)) 0) [
    | inl none ↦ none
    | inr some ↦
        let below = and_le_l word (bit_not w64 set) in
        let g = bit-some (bit_and word (bit_not w64 set)) (omega (arith, below, w)) some in
        let h = (both-bits word (bit_not w64 set) g.0).0 g.2 in
        absurd ((bit-not set g.0 s g.1).0 h.1 (all g.0 g.1 h.0))
  ],
)

-- no bit is in both words
pub apart-told : (has lacks : ℕ) → has < 2 ^ 64 → ((bit_and has lacks == 0) ≡ true) ↔ ((bit : ℕ) → bit < 64 → bit_at has bit ≡ 1 → bit_at lacks bit ≡ 1 → ⊥)
apart-told has lacks small =
    let decided = Decides-eqb (bit_and has lacks) 0 in (
      λ h bit l one other. bit-none (bit_and has lacks) bit (decided.0 h) ((both-bits has lacks bit).1 (one, other)),
      λ h. decided.1 (elim (cases_eq (bit_and has lacks) 0) [
        | inl none ↦ none
        | inr some ↦ absurd (
            let below = and_le_l has lacks in
            let g = bit-some (bit_and has lacks) (omega (arith, below, small)) some in
            let both = (both-bits has lacks g.0).0 g.2 in
            h g.0 g.1 both.0 both.1)
      ]),
    )
