-- The places that steps lead to, as a set that computes.
use Rattle.std.proofs.Common.{◌≡◌, ℕ, zero, suc, ◌+◌, ◌<◌, ◌⊎◌, inl, inr, Bool, true, false, cond, refl, sym, subst, ◌∙◌, arith, bit_or}
use Rattle.std.specs.Prelude.{◌↔◌}
use Rattle.std.proofs.lemmas.Bool.{cases_order}
use Rattle.label_patterns.specs.Matches.{Rounds, no_round, one_more}
use Rattle.label_patterns.specs.Places.{Has}
use Rattle.label_patterns.specs.Tests.{has_place}
use Rattle.label_patterns.proofs.PlaceLemmas.{Has-or, Has-left, Has-right, one_bit}
use Rattle.label_patterns.proofs.TestLemmas.{place-tested}
use Rattle.valid_labels.specs.Tests.{reached_by}

-- the start, all of it reached, and with what leads on from its members below a place
pub record IsFound (R : ℕ → ℕ → Type 0) (place found : ℕ) : Type 0 where
  pub start : Has found 0
  pub reached : (j : ℕ) → Has found j → Rounds R 0 j
  pub done : (i j : ℕ) → i < place → Has found i → R i j → Has found j

module _ (R : ℕ → ℕ → Type 0) (on : (i j : ℕ) → R i j → i < j) where
  pub found-start : IsFound R 0 1
  found-start = record {
    start = refl;
    reached = λ j h. subst (Rounds R 0) (sym (one_bit 0 j h)) no_round;
    done = λ i j l. absurd (omega (arith, l));
  }

  -- with the ends of a place that is in it
  pub found-more : (place found ends more : ℕ) → Has found place → ((j : ℕ) → Has ends j ↔ R place j) → ((p : ℕ) → (Has more p → Has found p ⊎ Has ends p) × (Has found p → Has more p) × (Has ends p → Has more p))
      → IsFound R place found → IsFound R (place + 1) more
  found-more place found ends more here are parts before = record {
    start = (parts 0).1 before.start;
    reached = λ j h. elim ((parts j).0 h) [ inl k ↦ before.reached j k | inr k ↦ one_more place j (before.reached place here) ((are j).0 k) ];
    done = λ i j l h r.
        let old : Has found i = elim ((parts i).0 h) [ inl k ↦ k | inr k ↦ absurd (let later = on place i ((are i).0 k) in omega (arith, later, l)) ] in
        elim (cases_order i place) [
          | inl e ↦ (parts j).2 ((are j).1 (subst (λ p. R p j) e r))
          | inr o ↦ elim o [
            | inl less ↦ (parts j).1 (before.done i j less old r)
            | inr greater ↦ absurd (omega (arith, l, greater))
          ]
        ];
  }

  -- with a place that is not in it
  pub found-same : (place found : ℕ) → (Has found place → ⊥) → IsFound R place found → IsFound R (place + 1) found
  found-same place found none before = record {
    start = before.start;
    reached = before.reached;
    done = λ i j l h r. elim (cases_order i place) [
      | inl e ↦ absurd (none (subst (Has found) e h))
      | inr o ↦ elim o [
        | inl less ↦ before.done i j less h r
        | inr greater ↦ absurd (omega (arith, l, greater))
      ]
    ];
  }

  -- once all places are done
  pub found-all : (n found : ℕ) → ((i j : ℕ) → R i j → i < n) → IsFound R n found → (j : ℕ) → Has found j ↔ Rounds R 0 j
  found-all n found inside is j = (is.reached j, closed j)
    where
      closed : (j : ℕ) → Rounds R 0 j → Has found j
      closed _ no_round = is.start
      closed _ (one_more k j rounds step) = is.done k j (inside k j step) (closed k rounds) step

  -- the set that computes
  pub reached-found : (ends : ℕ → ℕ) → ((i j : ℕ) → Has (ends i) j ↔ R i j) → (n : ℕ) → IsFound R n (reached_by ends n)
  reached-found ends are zero = found-start
  reached-found ends are (suc n) = subst (λ m. IsFound R m (reached_by ends (suc n))) (omega arith) (by_test (has_place (reached_by ends n) n) refl (reached-found ends are n))
    where
      by_test : (b : Bool) → has_place (reached_by ends n) n ≡ b → IsFound R n (reached_by ends n) → IsFound R (n + 1) (cond b (bit_or (reached_by ends n) (ends n)) (reached_by ends n))
      by_test true e before =
          found-more n (reached_by ends n) (ends n) (bit_or (reached_by ends n) (ends n)) ((place-tested (reached_by ends n) n).0 e) (are n)
          (λ p. (Has-or (reached_by ends n) (ends n) p, Has-left (reached_by ends n) (ends n) p, Has-right (reached_by ends n) (ends n) p)) before
      by_test false e before = found-same n (reached_by ends n) (λ h. (let f : true ≡ false = sym ((place-tested (reached_by ends n) n).1 h) ∙ e in cc)) before

  pub reached-are : (ends : ℕ → ℕ) → ((i j : ℕ) → Has (ends i) j ↔ R i j) → (n : ℕ) → ((i j : ℕ) → R i j → i < n) → (j : ℕ) → Has (reached_by ends n) j ↔ Rounds R 0 j
  reached-are ends are n inside = found-all n (reached_by ends n) inside (reached-found ends are n)
