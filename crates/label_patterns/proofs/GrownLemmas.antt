-- Sets of places that grow round by round.
use Rattle.std.proofs.Common.{ℕ, zero, suc, ◌+◌, ◌<◌, ◌≤◌, inl, inr, subst, arith, bit_or}
use Rattle.std.proofs.lemmas.Bool.{cases_order}
use Rattle.label_patterns.specs.Matches.{Rounds, no_round, one_more}
use Rattle.label_patterns.specs.Places.{Has, AreEnds}
use Rattle.label_patterns.specs.Tests.{grown}
use Rattle.label_patterns.proofs.LawLemmas.{IsOfParts, rounds-parts}
use Rattle.label_patterns.proofs.PlaceLemmas.{Has-or, Has-left, Has-right}
use Rattle.label_patterns.proofs.RoundLemmas.{AreParts, AreReached, none-reached, reached-more}

-- no place of the set is after the label's end
abbrev pub IsWithin : ℕ → ℕ → Type 0
IsWithin n places = (p : ℕ) → Has places p → p ≤ n

pub or-parts : (a b : ℕ) → AreParts a b (bit_or a b)
or-parts a b p = (Has-or a b p, Has-left a b p, Has-right a b p)

module _ (n : ℕ) (R : ℕ → ℕ → Type 0) (one : ℕ → ℕ) (parts : IsOfParts n R) (ends : (x : ℕ) → IsWithin n x → AreEnds R x (one x)) (starts : ℕ) (within : IsWithin n starts) where
  -- what rounds reach is within the label
  still : (found : ℕ) → AreReached R starts found → IsWithin n found
  still found reached p h = let from = reached p h in (rounds-parts n R parts from.0 p from.2).1 (within from.0 from.1)

  sound : (m : ℕ) → AreReached R starts (grown m (λ found. bit_or found (one found)) starts)
  sound zero = none-reached R starts
  sound (suc m) =
      let found : ℕ = grown m (λ x. bit_or x (one x)) starts in
      reached-more R starts found (one found) (bit_or found (one found)) (sound m) (ends found (still found (sound m))) (or-parts found (one found))

  keeps-start : (m i : ℕ) → Has starts i → Has (grown m (λ found. bit_or found (one found)) starts) i
  keeps-start zero i h = h
  keeps-start (suc m) i h = let found : ℕ = grown m (λ x. bit_or x (one x)) starts in Has-left found (one found) i (keeps-start m i h)

  one-more : (m i k j : ℕ) → Rounds R i k → R k j → ((n : ℕ) → k ≤ n + i → Has (grown n (λ found. bit_or found (one found)) starts) k) → j ≤ m + i → k < j
      → Has (grown m (λ found. bit_or found (one found)) starts) j
  one-more zero i k j rounds step before l less = absurd (let rises = (rounds-parts n R parts i k rounds).0 in omega (arith, rises, l, less))
  one-more (suc m) i k j rounds step before l less =
      let found : ℕ = grown m (λ x. bit_or x (one x)) starts in
      Has-right found (one found) j ((ends found (still found (sound m)) j).1 (k, before m (omega (arith, l, less)), step))

  complete : (i j : ℕ) → Has starts i → Rounds R i j → (m : ℕ) → j ≤ m + i → Has (grown m (λ found. bit_or found (one found)) starts) j
  complete i _ h no_round m l = keeps-start m i h
  complete i _ h (one_more k j rounds step) m l = elim (cases_order k j) [
    | inl e ↦ subst (Has (grown m (λ found. bit_or found (one found)) starts)) e (complete i k h rounds m (omega (arith, e, l)))
    | inr o ↦ elim o [
      | inl less ↦ one-more m i k j rounds step (complete i k h rounds) l less
      | inr greater ↦ absurd (let rises = (parts k j step).0 in omega (arith, rises, greater))
    ]
  ]

  pub grown-ends : AreEnds (Rounds R) starts (grown n (λ found. bit_or found (one found)) starts)
  grown-ends j = (
    sound n j,
    λ h. complete h.0 j h.1 h.2 n (let l = (rounds-parts n R parts h.0 j h.2).1 (within h.0 h.1) in omega (arith, l)),
  )
