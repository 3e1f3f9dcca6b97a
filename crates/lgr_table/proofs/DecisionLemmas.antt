-- Whether a pattern matches a part of a label is decided, also where the anchor stands for a part of the label.
use Rattle.std.proofs.Common.{◌≡◌, ℕ, zero, suc, ◌+◌, ◌<◌, ◌≤◌, ◌^◌, ◌⊎◌, inl, inr, Bool, true, false, cond, ◌&&◌, ◌||◌, eqb, leb, length, refl, sym, subst, arith}
use Rattle.std.specs.Prelude.{◌↔◌, IsTrue, Option, Some, None, if◌then◌else◌, ◌==◌}
use Rattle.std.proofs.lemmas.Bool.{cases_lt, eqb-true, eq-eqb, leb-false, leb-true}
use Rattle.std.proofs.lemmas.Nat.Bits.{bit_at-pow_same}
use Rattle.label_patterns.specs.Matches.{Matches, Rounds, Seen, no_round, one_more}
use Rattle.label_patterns.specs.Patterns.{Pattern, Point, Set, Any, Start, End, Anchor, Group, Optional, Many, Then, Either}
use Rattle.label_patterns.specs.Tests.{ends_from, has_place}
use Rattle.label_patterns.proofs.PlaceLemmas.{one_bit}
use Rattle.label_patterns.proofs.TestLemmas.{and-both, ends-are, one-within, place-tested}
use Rattle.lgr_text.specs.PartMatches.{IsAnchored, MatchesAround, Place}

-- it matches the empty part of a label at places after its end
abbrev pub is_beyond : Pattern → Bool
is_beyond (Point c) = false
is_beyond (Set n) = false
is_beyond Any = false
is_beyond Start = false
is_beyond End = false
is_beyond Anchor = false
is_beyond (Group p) = is_beyond p
is_beyond (Optional p) = true
is_beyond (Many p) = true
is_beyond (Then p q) = is_beyond p && is_beyond q
is_beyond (Either p q) = is_beyond p || is_beyond q

-- the pattern matches the part from i to j
abbrev pub matches_there : Seen → Pattern → ℕ → ℕ → Bool
matches_there s p i j = if leb i (length s.label) then has_place (ends_from s p (2 ^ i)) j else is_beyond p && j == i

-- ---- after the end

rounds-stay : (R : ℕ → ℕ → Type 0) (i j : ℕ) → ((k : ℕ) → R i k → k ≡ i) → Rounds R i j → j ≡ i
rounds-stay R i _ stay no_round = refl
rounds-stay R i _ stay (one_more k j rounds step) =
    let e = rounds-stay R i k stay rounds in stay j (subst (λ n. R n j) e step)

stays-beyond : (s : Seen) (p : Pattern) (i j : ℕ) → length s.label < i → Matches s p i j → j ≡ i
stays-beyond s (Point c) i j over h = absurd (omega (arith, over, h.0.0))
stays-beyond s (Set n) i j over h = absurd (omega (arith, over, h.0.0))
stays-beyond s Any i j over h = absurd (omega (arith, over, h.0.0))
stays-beyond s Start i j over h = absurd (omega (arith, over, h.0))
stays-beyond s End i j over h = absurd (omega (arith, over, h.0))
stays-beyond s Anchor i j over h = absurd h
stays-beyond s (Group p) i j over h = stays-beyond s p i j over h
stays-beyond s (Optional p) i j over h = elim h [ inl e ↦ e | inr k ↦ stays-beyond s p i j over k ]
stays-beyond s (Many p) i j over h = rounds-stay (Matches s p) i j (λ k. stays-beyond s p i k over) h
stays-beyond s (Then p q) i j over h =
    let e = stays-beyond s p i h.0 over h.1 in
    stays-beyond s q i j over (subst (λ k. Matches s q k j) e h.2)
stays-beyond s (Either p q) i j over h = elim h [ inl k ↦ stays-beyond s p i j over k | inr k ↦ stays-beyond s q i j over k ]

either-true : (a b : Bool) → (IsTrue a ⊎ IsTrue b) → IsTrue (a || b)
either-true true b h = refl
either-true false b h = elim h [ inl f ↦ absurd (let g : false ≡ true = f in cc) | inr t ↦ t ]

true-either : (a b : Bool) → IsTrue (a || b) → IsTrue a ⊎ IsTrue b
true-either true b h = inl refl
true-either false b h = inr h

no-truth : {P : Type 0} → IsTrue false → P
no-truth h = absurd (let f : false ≡ true = h in cc)

is-beyond : (s : Seen) (p : Pattern) (i : ℕ) → length s.label < i → IsTrue (is_beyond p) ↔ Matches s p i i
is-beyond s (Point c) i over = (no-truth, λ h. absurd (omega (arith, over, h.0.0)))
is-beyond s (Set n) i over = (no-truth, λ h. absurd (omega (arith, over, h.0.0)))
is-beyond s Any i over = (no-truth, λ h. absurd (omega (arith, over, h.0.0)))
is-beyond s Start i over = (no-truth, λ h. absurd (omega (arith, over, h.0)))
is-beyond s End i over = (no-truth, λ h. absurd (omega (arith, over, h.0)))
is-beyond s Anchor i over = (no-truth, λ h. absurd h)
is-beyond s (Group p) i over = is-beyond s p i over
is-beyond s (Optional p) i over = (λ h. inl refl, λ h. refl)
is-beyond s (Many p) i over = (λ h. no_round, λ h. refl)
is-beyond s (Then p q) i over =
    let left = is-beyond s p i over in
    let right = is-beyond s q i over in
    let both = and-both (is_beyond p) (is_beyond q) in (
      λ h. (let parts = both.0 h in (i, left.0 parts.0, right.0 parts.1)),
      λ h.
          let e = stays-beyond s p i h.0 over h.1 in
          both.1 (left.1 (subst (Matches s p i) e h.1), right.1 (subst (λ k. Matches s q k i) e h.2)),
    )
is-beyond s (Either p q) i over =
    let left = is-beyond s p i over in
    let right = is-beyond s q i over in (
      λ h. elim (true-either (is_beyond p) (is_beyond q) h) [ inl k ↦ inl (left.0 k) | inr k ↦ inr (right.0 k) ],
      λ h. either-true (is_beyond p) (is_beyond q) (elim h [ inl k ↦ inl (left.1 k) | inr k ↦ inr (right.1 k) ]),
    )

beyond-agrees : (s : Seen) (p : Pattern) (i j : ℕ) → length s.label < i → IsTrue (is_beyond p && eqb j i) ↔ Matches s p i j
beyond-agrees s p i j over =
    let both = and-both (is_beyond p) (eqb j i) in
    let beyond = is-beyond s p i over in (
      λ h. (let parts = both.0 h in subst (Matches s p i) (sym (eqb-true j i parts.1)) (beyond.0 parts.0)),
      λ h. (let e = stays-beyond s p i j over h in both.1 (beyond.1 (subst (Matches s p i) e h), eq-eqb j i e)),
    )

-- ---- up to the end

within-agrees : (s : Seen) (p : Pattern) (i j : ℕ) → i ≤ length s.label → IsTrue (has_place (ends_from s p (2 ^ i)) j) ↔ Matches s p i j
within-agrees s p i j within =
    let tested = place-tested (ends_from s p (2 ^ i)) j in
    let ends = ends-are s p (2 ^ i) (one-within (length s.label) i within) j in (
      λ h. (let from = ends.0 (tested.0 h) in subst (λ k. Matches s p k j) (one_bit i from.0 from.1) from.2),
      λ h. tested.1 (ends.1 (i, bit_at-pow_same i, h)),
    )

pub there-agrees : (s : Seen) (p : Pattern) (i j : ℕ) → IsTrue (matches_there s p i j) ↔ Matches s p i j
there-agrees s p i j = by (leb i (length s.label)) (leb-true i (length s.label)) (leb-false i (length s.label))
  where
    by : (b : Bool) → (b ≡ true → i ≤ length s.label) → (b ≡ false → length s.label < i)
        → IsTrue (cond b (has_place (ends_from s p (2 ^ i)) j) (is_beyond p && eqb j i)) ↔ Matches s p i j
    by true within over = within-agrees s p i j (within refl)
    by false within over = beyond-agrees s p i j (over refl)

-- ---- around a part of the label

-- the test is true of a number up to n
abbrev some_up_to : ℕ → (ℕ → Bool) → Bool
some_up_to zero test = test zero
some_up_to (suc n) test = test (suc n) || some_up_to n test

some-tested : (n : ℕ) (test : ℕ → Bool) → IsTrue (some_up_to n test) ↔ ((k : ℕ) × (k ≤ n) × IsTrue (test k))
some-tested zero test = (
  λ h. (zero, omega arith, h),
  λ h. (let none : h.0 ≡ zero = omega (arith, h.1) in subst (λ k. IsTrue (test k)) none h.2),
)
some-tested (suc n) test =
    let before = some-tested n test in (
      λ h. elim (true-either (test (suc n)) (some_up_to n test) h) [
        | inl last ↦ (suc n, omega arith, last)
        | inr some ↦ (let found = before.0 some in (found.0, omega (arith, found.1), found.2))
      ],
      λ h. either-true (test (suc n)) (some_up_to n test) (elim (cases_lt n h.0) [
        | inl over ↦ inl (let last : h.0 ≡ suc n = omega (arith, h.1, over) in subst (λ k. IsTrue (test k)) last h.2)
        | inr within ↦ inr (before.1 (h.0, within, h.2))
      ]),
    )

abbrev end_of : Option Place → ℕ
end_of None = 0
end_of (Some place) = place.end

abbrev is_anchored : Option Place → ℕ → ℕ → Bool
is_anchored None i j = false
is_anchored (Some place) i j = eqb i place.start && eqb j place.end

anchored-agrees : (at : Option Place) (i j : ℕ) → IsTrue (is_anchored at i j) ↔ IsAnchored at i j
anchored-agrees None i j = (no-truth, λ h. absurd h)
anchored-agrees (Some place) i j =
    let both = and-both (eqb i place.start) (eqb j place.end) in (
      λ h. (let parts = both.0 h in (eqb-true i place.start parts.0, eqb-true j place.end parts.1)),
      λ h. both.1 (eq-eqb i place.start h.0, eq-eqb j place.end h.1),
    )

-- the pattern matches the part from i to j around that one
abbrev pub matches_around : Seen → Option Place → Pattern → ℕ → ℕ → Bool
matches_around s at Anchor i j = is_anchored at i j
matches_around s at (Then p q) i j =
    some_up_to (i + (length s.label + end_of at)) (λ k. matches_around s at p i k && matches_around s at q k j)
matches_around s at (Either p q) i j = matches_around s at p i j || matches_around s at q i j
matches_around s at p i j = matches_there s p i j

-- no part ends after the label, the place of the anchor and where it begins
rounds-bound : (R : ℕ → ℕ → Type 0) (i j n : ℕ) → ((k m : ℕ) → k ≤ n → R k m → m ≤ n) → i ≤ n → Rounds R i j → j ≤ n
rounds-bound R i _ n bound le no_round = le
rounds-bound R i _ n bound le (one_more k j rounds step) = bound k j (rounds-bound R i k n bound le rounds) step

matches-bound : (s : Seen) (p : Pattern) (n i j : ℕ) → length s.label ≤ n → i ≤ n → Matches s p i j → j ≤ n
matches-bound s (Point c) n i j label le h = omega (arith, label, h.0.0, h.1)
matches-bound s (Set m) n i j label le h = omega (arith, label, h.0.0, h.1)
matches-bound s Any n i j label le h = omega (arith, label, h.0.0, h.1)
matches-bound s Start n i j label le h = omega (arith, h.1)
matches-bound s End n i j label le h = omega (arith, label, h.1)
matches-bound s Anchor n i j label le h = absurd h
matches-bound s (Group p) n i j label le h = matches-bound s p n i j label le h
matches-bound s (Optional p) n i j label le h = elim h [ inl e ↦ omega (arith, le, e) | inr k ↦ matches-bound s p n i j label le k ]
matches-bound s (Many p) n i j label le h = rounds-bound (Matches s p) i j n (λ k m before step. matches-bound s p n k m label before step) le h
matches-bound s (Then p q) n i j label le h = matches-bound s q n h.0 j label (matches-bound s p n i h.0 label le h.1) h.2
matches-bound s (Either p q) n i j label le h = elim h [ inl k ↦ matches-bound s p n i j label le k | inr k ↦ matches-bound s q n i j label le k ]

anchored-bound : (at : Option Place) (n i j : ℕ) → end_of at ≤ n → IsAnchored at i j → j ≤ n
anchored-bound None n i j end h = absurd h
anchored-bound (Some place) n i j end h = omega (arith, end, h.1)

around-bound : (s : Seen) (at : Option Place) (p : Pattern) (n i j : ℕ) → length s.label ≤ n → end_of at ≤ n → i ≤ n → MatchesAround s at p i j → j ≤ n
around-bound s at (Point c) n i j label end le h = matches-bound s (Point c) n i j label le h
around-bound s at (Set m) n i j label end le h = matches-bound s (Set m) n i j label le h
around-bound s at Any n i j label end le h = matches-bound s Any n i j label le h
around-bound s at Start n i j label end le h = matches-bound s Start n i j label le h
around-bound s at End n i j label end le h = matches-bound s End n i j label le h
around-bound s at Anchor n i j label end le h = anchored-bound at n i j end h
around-bound s at (Group p) n i j label end le h = matches-bound s (Group p) n i j label le h
around-bound s at (Optional p) n i j label end le h = matches-bound s (Optional p) n i j label le h
around-bound s at (Many p) n i j label end le h = matches-bound s (Many p) n i j label le h
around-bound s at (Then p q) n i j label end le h = around-bound s at q n h.0 j label end (around-bound s at p n i h.0 label end le h.1) h.2
around-bound s at (Either p q) n i j label end le h =
    elim h [ inl k ↦ around-bound s at p n i j label end le k | inr k ↦ around-bound s at q n i j label end le k ]

pub around-agrees : (s : Seen) (at : Option Place) (p : Pattern) (i j : ℕ) → IsTrue (matches_around s at p i j) ↔ MatchesAround s at p i j
around-agrees s at (Point c) i j = there-agrees s (Point c) i j
around-agrees s at (Set n) i j = there-agrees s (Set n) i j
around-agrees s at Any i j = there-agrees s Any i j
around-agrees s at Start i j = there-agrees s Start i j
around-agrees s at End i j = there-agrees s End i j
around-agrees s at Anchor i j = anchored-agrees at i j
around-agrees s at (Group p) i j = there-agrees s (Group p) i j
around-agrees s at (Optional p) i j = there-agrees s (Optional p) i j
around-agrees s at (Many p) i j = there-agrees s (Many p) i j
around-agrees s at (Then p q) i j =
    let n = i + (length s.label + end_of at) in
    let test : ℕ → Bool = λ k. matches_around s at p i k && matches_around s at q k j in
    let some = some-tested n test in (
      λ h.
          let found = some.0 h in
          let both = (and-both (matches_around s at p i found.0) (matches_around s at q found.0 j)).0 found.2 in
          (found.0, (around-agrees s at p i found.0).0 both.0, (around-agrees s at q found.0 j).0 both.1),
      λ h. some.1 (
        h.0,
        around-bound s at p n i h.0 (omega arith) (omega arith) (omega arith) h.1,
        (and-both (matches_around s at p i h.0) (matches_around s at q h.0 j)).1
            ((around-agrees s at p i h.0).1 h.1, (around-agrees s at q h.0 j).1 h.2),
      ),
    )
around-agrees s at (Either p q) i j =
    let left = around-agrees s at p i j in
    let right = around-agrees s at q i j in (
      λ h. elim (true-either (matches_around s at p i j) (matches_around s at q i j) h) [ inl k ↦ inl (left.0 k) | inr k ↦ inr (right.0 k) ],
      λ h. either-true (matches_around s at p i j) (matches_around s at q i j) (elim h [ inl k ↦ inl (left.1 k) | inr k ↦ inr (right.1 k) ]),
    )
