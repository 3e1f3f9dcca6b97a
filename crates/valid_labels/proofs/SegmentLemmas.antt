-- Segments of a table as a list, and where they end.
use Rattle.std.proofs.Common.{◌≡◌, ℕ, ◌+◌, ◌-◌, ◌^◌, ◌<◌, ◌≤◌, inl, inr, Bool, true, false, cond, List, [], ◌∷◌, length, refl, sym, ap, subst, ◌∙◌, arith, bit_or}
use Rattle.std.specs.Prelude.{◌↔◌, IsTrue, Option, bytes_eq}
use Rattle.std.specs.List.{AllByRecursion, Contains, slice_range}
use Rattle.std.proofs.lemmas.List.Elements.{All-contains, All-from_recursion}
use Rattle.std.proofs.lemmas.Nat.Bits.{bit_at-pow_same}
use Rattle.std.proofs.lemmas.Slice.Eq.{bytes_eq-Decides}
use Rattle.label_patterns.specs.declared.condition.Condition.{Condition}
use Rattle.label_patterns.specs.Matches.{Rounds}
use Rattle.label_patterns.specs.Places.{Has}
use Rattle.label_patterns.proofs.PlaceLemmas.{Has-or, Has-left, Has-right, one_bit, not-in-none}
use Rattle.variant_table.proofs.MemberLemmas.{Contains-head, Contains-later, Contains-none, Contains-cases}
use Rattle.valid_labels.specs.Tests.{Segment, stands_at, segment_ends, cut_places}
use Rattle.valid_labels.proofs.PartLemmas.{part-inside, part-length}
use Rattle.valid_labels.proofs.ReachedLemmas.{reached-are}
use Rattle.label_patterns.proofs.TestLemmas.{and-both}

-- one of the segments stands from i to j, and what is asked of it is so
abbrev pub OneStands : (Option Condition → ℕ → ℕ → Type 0) → List Segment → List ℕ → ℕ → ℕ → Type 0
OneStands A segments label i j = (p : Segment) × Contains segments p × (i ≤ j) × (j ≤ length label) × (slice_range label i j ≡ p.points) × A p.condition i j

-- a segment with code points
abbrev pub IsFilled : Segment → Type 0
IsFilled p = 0 < length p.points

-- a test tells what is asked, in a label of n code points
abbrev pub Tells : ℕ → (Option Condition → ℕ → ℕ → Bool) → (Option Condition → ℕ → ℕ → Type 0) → Type 0
Tells n asked A = (c : Option Condition) (i j : ℕ) → i ≤ n → j ≤ n → IsTrue (asked c i j) ↔ A c i j

module _ (label : List ℕ) (asked : Option Condition → ℕ → ℕ → Bool) (A : Option Condition → ℕ → ℕ → Type 0) (tells : Tells (length label) asked A) where
  -- one segment
  stands : (place : ℕ) (p : Segment) → IsFilled p → IsTrue (stands_at asked label place p) ↔ ((place + length p.points ≤ length label) × (slice_range label place (place + length p.points) ≡ p.points) × A p.condition place (place + length p.points))
  stands place p some =
      let end : ℕ = place + length p.points in
      let two = and-both (bytes_eq (slice_range label place end) p.points) (asked p.condition place end) in
      let same = bytes_eq-Decides (slice_range label place end) p.points in (
        λ h.
            let b = two.0 h in
            let is = same.0 b.0 in
            let inside = part-inside label place (length p.points) p.points refl some is in
            (inside, is, (tells p.condition place end (omega (arith, inside)) inside).0 b.1),
        λ h. two.1 (same.1 h.1, (tells p.condition place end (let l = h.0 in omega (arith, l)) h.0).1 h.2),
      )

  abbrev Ends : List Segment → ℕ → ℕ → Type 0
  Ends segments place j = (p : Segment) × Contains segments p × (j ≡ place + length p.points) × (j ≤ length label) × (slice_range label place j ≡ p.points) × A p.condition place j

  ends : (segments : List Segment) (place j : ℕ) → AllByRecursion IsFilled segments → Has (segment_ends asked segments label place) j ↔ Ends segments place j
  ends [] place j some = (λ h. absurd (not-in-none j h), λ h. absurd (Contains-none h.0 h.1))
  ends (p ∷ segments) place j some = by_test (stands_at asked label place p) refl (ends segments place j some.1)
    where
      later : Ends segments place j → Ends (p ∷ segments) place j
      later g = (g.0, Contains-later p segments g.0 g.1, g.2, g.3, g.4, g.5)

      by_test : (b : Bool) → stands_at asked label place p ≡ b → Has (segment_ends asked segments label place) j ↔ Ends segments place j
          → Has (cond b (bit_or (segment_ends asked segments label place) (2 ^ (place + length p.points))) (segment_ends asked segments label place)) j ↔ Ends (p ∷ segments) place j
      by_test true e rest = (
        λ h. elim (Has-or (segment_ends asked segments label place) (2 ^ (place + length p.points)) j h) [
          | inl k ↦ later (rest.0 k)
          | inr k ↦
              let at : j ≡ place + length p.points = one_bit (place + length p.points) j k in
              let is = (stands place p some.0).0 e in
              subst (λ m. Ends (p ∷ segments) place m) (sym at) (p, Contains-head p segments, refl, is.0, is.1, is.2)
        ],
        λ g. elim (Contains-cases p segments g.0 g.1) [
          | inl same ↦ Has-right (segment_ends asked segments label place) (2 ^ (place + length p.points)) j
              (subst (λ m. Has (2 ^ (place + length p.points)) m) (sym (g.2 ∙ ap (λ (q : Segment). place + length q.points) (sym same))) (bit_at-pow_same (place + length p.points)))
          | inr t ↦ Has-left (segment_ends asked segments label place) (2 ^ (place + length p.points)) j (rest.1 (g.0, t, g.2, g.3, g.4, g.5))
        ],
      )
      by_test false e rest = (
        λ h. later (rest.0 h),
        λ g. elim (Contains-cases p segments g.0 g.1) [
          | inl same ↦
              let at : j ≡ place + length p.points = g.2 ∙ ap (λ (q : Segment). place + length q.points) (sym same) in
              let is : IsTrue (stands_at asked label place p) = (stands place p some.0).1 (subst (λ m. (m ≤ length label) × (slice_range label place m ≡ p.points) × A p.condition place m) at
              (g.3, g.4 ∙ ap (λ (q : Segment). q.points) (sym same), subst (λ (q : Segment). A q.condition place j) (sym same) g.5)) in
              absurd (let f : true ≡ false = sym is ∙ e in cc)
          | inr t ↦ rest.1 (g.0, t, g.2, g.3, g.4, g.5)
        ],
      )

  filled-at : (segments : List Segment) (p : Segment) → AllByRecursion IsFilled segments → Contains segments p → 0 < length p.points
  filled-at segments p some c = All-contains IsFilled segments p (All-from_recursion IsFilled segments some) c

  pub ends-are : (segments : List Segment) → AllByRecursion IsFilled segments → (i j : ℕ) → Has (segment_ends asked segments label i) j ↔ OneStands A segments label i j
  ends-are segments some i j =
      let e = ends segments i j some in (
        λ h. (let g = e.0 h in (g.0, g.1, (let at = g.2 in omega (arith, at)), g.3, g.4, g.5)),
        λ g. e.1 (g.0, g.1, (let s : length g.0.points ≡ j - i = ap length (sym g.4) ∙ part-length label i j g.2 g.3 in let l = g.2 in omega (arith, s, l)), g.3, g.4, g.5),
      )

  on : (segments : List Segment) → AllByRecursion IsFilled segments → (i j : ℕ) → OneStands A segments label i j → i < j
  on segments some i j g =
      let s : length g.0.points ≡ j - i = ap length (sym g.4) ∙ part-length label i j g.2 g.3 in
      let f = filled-at segments g.0 some g.1 in
      omega (arith, s, f)

  -- the places up to which the label can be cut
  pub cut-places-are : (segments : List Segment) → AllByRecursion IsFilled segments → (j : ℕ) → Has (cut_places asked segments label) j ↔ Rounds (OneStands A segments label) 0 j
  cut-places-are segments some =
      reached-are (OneStands A segments label) (on segments some) (segment_ends asked segments label) (ends-are segments some) (length label)
      (λ i j g. (let l = on segments some i j g in let m = g.3 in omega (arith, l, m)))
