-- A pattern occurs where the set of its ends is not empty.
use Rattle.std.proofs.Common.{◌≡◌, ℕ, ◌≤◌, ◌<◌, inl, inr, true, false, not, eqb, length, sym, ap, ◌∙◌, subst, arith}
use Rattle.std.specs.Prelude.{◌↔◌}
use Rattle.std.specs.Int.{trailing_zeros, w64}
use Rattle.std.proofs.lemmas.Bool.{cases_order, eqb-true, eq-eqb, false_from_ne_true}
use Rattle.std.proofs.lemmas.Nat.Bits.{bit_at-trailing_zeros}
use Rattle.label_patterns.specs.Patterns.{Pattern}
use Rattle.label_patterns.specs.Places.{Has, AreEnds}
use Rattle.label_patterns.specs.Matches.{Seen, Matches}
use Rattle.label_patterns.specs.FirstEnds.{IsFirstEnd}
use Rattle.label_patterns.specs.Rules.{Occurs}
use Rattle.label_patterns.proofs.PlaceLemmas.{not-in-none, some-place}
use Rattle.label_patterns.proofs.LawLemmas.{parts}

pub occurs-some : (p : Pattern) (s : Seen) (len all ends : ℕ) → len ≡ length s.label → ((q : ℕ) → Has all q ↔ (q ≤ len)) → AreEnds (Matches s p) all ends
    → ends < 18446744073709551616 → (ends ≡ 0 → ⊥) → Occurs s p
occurs-some p s len all ends is all_are are l some =
    let place = some-place ends l some in
    let from = (are place.0).0 place.1 in
    (from.0, place.0, (let inside = (all_are from.0).0 from.1 in omega (arith, inside, is)), from.2)

pub occurs-none : (p : Pattern) (s : Seen) (len all ends : ℕ) → len ≡ length s.label → ((q : ℕ) → Has all q ↔ (q ≤ len)) → AreEnds (Matches s p) all ends
    → ends ≡ 0 → Occurs s p → ⊥
occurs-none p s len all ends is all_are are none h =
    not-in-none h.1 (subst (λ n. Has n h.1) none ((are h.1).1 (h.0, (all_are h.0).1 (let l = h.2 in omega (arith, l, is)), h.3)))

-- the test that a number is not 0
pub some-from : (n : ℕ) → not (eqb n 0) ≡ true → n ≡ 0 → ⊥
some-from n h none = let f : false ≡ true = sym (ap not (eq-eqb n 0 none)) ∙ h in cc

pub some-to : (n : ℕ) → (n ≡ 0 → ⊥) → not (eqb n 0) ≡ true
some-to n some = ap not (false_from_ne_true (eqb n 0) (λ e. some (eqb-true n 0 e)))

-- the lowest place of a set
lowest-place : (n q : ℕ) → n < 18446744073709551616 → (n ≡ 0 → ⊥) → Has n q → trailing_zeros w64 n ≤ q
lowest-place n q l some h =
    let t = bit_at-trailing_zeros w64 n (omega (arith, some)) l in
    elim (cases_order q (trailing_zeros w64 n)) [
      | inl e ↦ omega (arith, e)
      | inr o ↦ elim o [
        | inl less ↦ absurd (let z = t.2 q less in omega (arith, z, h))
        | inr more ↦ omega (arith, more)
      ]
    ]

-- the lowest of the ends
pub first-is : (p : Pattern) (s : Seen) (len all ends : ℕ) → len ≡ length s.label → ((q : ℕ) → Has all q ↔ (q ≤ len)) → AreEnds (Matches s p) all ends
    → ends < 18446744073709551616 → (ends ≡ 0 → ⊥) → IsFirstEnd s p (trailing_zeros w64 ends)
first-is p s len all ends is all_are are l some =
    let t = bit_at-trailing_zeros w64 ends (omega (arith, some)) l in
    let from = (are (trailing_zeros w64 ends)).0 t.1 in
    let inside = (all_are from.0).0 from.1 in
    let part = parts p s from.0 (trailing_zeros w64 ends) from.2 in
    record {
      start = (from.0, part.0, from.2);
      within = part.1 (omega (arith, inside, is));
      least = λ i j h m. lowest-place ends j l some ((are j).1 (i, (all_are i).1 (omega (arith, h, is)), m));
    }
