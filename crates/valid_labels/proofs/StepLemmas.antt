-- Steps from place to place.
use Rattle.std.proofs.Common.{refl, subst, Bool, zero, suc, ◌+◌, [], ◌∷◌, take, drop, get_or, ◌≡◌, ℕ, ◌-◌, ◌<◌, ◌≤◌, ◌⊎◌, inl, inr, List, length, sym, ap, ◌∙◌, arith}
use Rattle.std.specs.Prelude.{◌↔◌, IsTrue, Option}
use Rattle.std.specs.List.{slice_range}
use Rattle.std.proofs.lemmas.List.{drop_more}
use Rattle.label_patterns.specs.declared.condition.Condition.{Condition}
use Rattle.label_patterns.specs.Places.{Has}
use Rattle.label_patterns.proofs.PlaceLemmas.{not-in-none}
use Rattle.variant_table.specs.Entries.{Entry, TableValue, sequences_in}
use Rattle.variant_table.specs.WellFormed.{IsWellFormed}
use Rattle.variant_table.proofs.MemberLemmas.{Contains-head}
use Rattle.valid_labels.specs.Segments.{IsSegment}
use Rattle.valid_labels.specs.inner.Singles.{IsSingle}
use Rattle.valid_labels.specs.inner.Steps.{SourceIs}
use Rattle.valid_labels.proofs.CutLemmas.{sequence-filled}
use Rattle.valid_labels.proofs.PartLemmas.{part-length, first-part}
use Rattle.valid_labels.proofs.SegmentSteps.{step-segment}
use Rattle.valid_labels.proofs.TestLemmas.{segment-filled}

-- each step leads on
pub steps-on : (asks : Entry → ℕ → ℕ → Type 0) (entries : List Entry) (label : List ℕ) → IsWellFormed entries → (i j : ℕ) → SourceIs asks entries label i j → i < j
steps-on asks entries label formed i j s =
    let size : length s.0.source ≡ j - i = ap length (sym s.4) ∙ part-length label i j s.2 s.3 in
    let some = sequence-filled entries s.0 s.0.source formed s.1 (Contains-head s.0.source (sequences_in s.0.variants)) in
    omega (arith, size, some)

-- one code point leads on from a single place, if the place is open
pub single-ends : (R : ℕ → ℕ → Type 0) (Leading : Type 0) (place ends : ℕ) (leading : Bool) → (IsTrue leading ↔ Leading) → ((p : ℕ) → Has ends p ↔ (Has 0 p ⊎ (IsTrue leading × (p ≡ place + 1))))
    → ((j : ℕ) → R place j ↔ ((j ≡ place + 1) × Leading)) → (j : ℕ) → Has ends j ↔ R place j
single-ends R Leading place ends leading tells with_end is j = (
  λ h. (is j).1 (elim ((with_end j).0 h) [ inl none ↦ absurd (not-in-none j none) | inr e ↦ (e.1, tells.0 e.0) ]),
  λ h. let b = (is j).0 h in (with_end j).1 (inr (tells.1 b.1, b.0)),
)

-- from a single code point that code point alone leads on, if what is asked of it is so
pub single-steps : (A : Option Condition → ℕ → ℕ → Type 0) (table : TableValue) (label : List ℕ) (i : ℕ) (d : Option Condition) → i < length label → IsSingle table (get_or label i 0) d → (j : ℕ) → SourceIs (λ e a b. A e.condition a b) table.entries label i j ↔ ((j ≡ i + 1) × A d i (i + 1))
single-steps A table label i d l single j =
    let same = step-segment A table label i j in
    let here : drop i label ≡ get_or label i 0 ∷ drop (i + 1) label = drop_more label i 0 l in
    let one : slice_range label i (i + 1) ≡ get_or label i 0 ∷ [] = first-part label i (get_or label i 0 ∷ []) (drop (i + 1) label) here in (
      λ step.
          let p = same.0 step in
          let at = by_end j p.0 p.1.0 p.1.1 p.1.2 (cut i j l p.1.0) in
          (at.0, subst (λ n. A d i n) at.0 (subst (λ c. A c i j) at.1 p.2)),
      λ h. same.1 (
        d,
        ((let e = h.0 in omega (arith, e)), (let e = h.0 in omega (arith, e, l)), subst (λ n. IsSegment table (slice_range label i n) d) (sym h.0) (subst (λ s. IsSegment table s d) (sym one) single.segment)),
        subst (λ n. A d i n) (sym h.0) h.1,
      ),
    )
  where
    -- the part begins with the code point
    cut : (a b : ℕ) → a < length label → a ≤ b → (slice_range label a b ≡ []) ⊎ ((rest : List ℕ) × (slice_range label a b ≡ get_or label a 0 ∷ rest))
    cut a b inside le = by_size (b - a) refl
      where
        by_size : (n : ℕ) → b - a ≡ n → (slice_range label a b ≡ []) ⊎ ((rest : List ℕ) × (slice_range label a b ≡ get_or label a 0 ∷ rest))
        by_size zero e = inl (ap (λ m. take m (drop a label)) e)
        by_size (suc n) e = inr (take n (drop (a + 1) label), ap (λ m. take m (drop a label)) e ∙ ap (take (suc n)) (drop_more label a 0 inside))

    by_end : (b : ℕ) (c : Option Condition) → i ≤ b → b ≤ length label → IsSegment table (slice_range label i b) c
        → (slice_range label i b ≡ []) ⊎ ((rest : List ℕ) × (slice_range label i b ≡ get_or label i 0 ∷ rest)) → (b ≡ i + 1) × (c ≡ d)
    by_end b c le m segment (inl none) =
        absurd (let some = segment-filled table (slice_range label i b) c single.formed segment in let z = ap length none in omega (arith, some, z))
    by_end b c le m segment (inr more) =
        let alone = single.alone more.0 c (subst (λ s. IsSegment table s c) more.1 segment) in
        let size = part-length label i b le m in
        let whole : length (slice_range label i b) ≡ 1 = ap length (more.1 ∙ ap (λ r. get_or label i 0 ∷ r) alone.0) in
        (omega (arith, size, whole, le), alone.1)
