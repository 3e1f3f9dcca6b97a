-- Rounds of a relation.
use Rattle.std.proofs.Common.{◌≡◌, ℕ, zero, suc, ◌+◌, refl, sym, subst, arith}
use Rattle.label_patterns.specs.Matches.{Rounds, no_round, one_more}
use Rattle.lgr_text.specs.PartMatches.{Repeats}

pub repeats-map : (R S : ℕ → ℕ → Type 0) → ((i j : ℕ) → R i j → S i j) → (n i j : ℕ) → Repeats R n i j → Repeats S n i j
repeats-map R S f zero i j h = h
repeats-map R S f (suc n) i j h = (h.0, f i h.0 h.1, repeats-map R S f n h.0 j h.2)

-- one round more at the end
pub repeats-more : (R : ℕ → ℕ → Type 0) (n i k j : ℕ) → Repeats R n i k → R k j → Repeats R (suc n) i j
repeats-more R zero i k j h r = (j, subst (λ m. R m j) h r, refl)
repeats-more R (suc n) i k j h r = (h.0, h.1, repeats-more R n h.0 k j h.2 r)

pub repeats-less : (R : ℕ → ℕ → Type 0) (n i j : ℕ) → Repeats R (suc n) i j → (k : ℕ) × Repeats R n i k × R k j
repeats-less R zero i j h = (i, refl, subst (λ m. R i m) (sym h.2) h.1)
repeats-less R (suc n) i j h = let rest = repeats-less R n h.0 j h.2 in (rest.0, (h.0, h.1, rest.1), rest.2)

pub repeats-join : (R : ℕ → ℕ → Type 0) (m n i k j : ℕ) → Repeats R m i k → Repeats R n k j → Repeats R (m + n) i j
repeats-join R m zero i k j h r =
    let e : m ≡ m + zero = omega arith in subst (λ x. Repeats R x i j) e (subst (λ x. Repeats R m i x) (sym r) h)
repeats-join R m (suc n) i k j h r =
    let more = repeats-more R m i k r.0 h r.1 in
    let e : suc m + n ≡ m + suc n = omega arith in
    subst (λ x. Repeats R x i j) e (repeats-join R (suc m) n i r.0 j more r.2)

pub repeats-split : (R : ℕ → ℕ → Type 0) (m n i j : ℕ) → Repeats R (m + n) i j → (k : ℕ) × Repeats R m i k × Repeats R n k j
repeats-split R m zero i j h = let e : m + zero ≡ m = omega arith in (j, subst (λ x. Repeats R x i j) e h, refl)
repeats-split R m (suc n) i j h =
    let e : m + suc n ≡ suc (m + n) = omega arith in
    let whole : Repeats R (suc (m + n)) i j = subst (λ x. Repeats R x i j) e h in
    let last = repeats-less R (m + n) i j whole in
    let before = repeats-split R m n i last.0 last.1 in
    (before.0, before.1, repeats-more R n before.0 last.0 j before.2 last.2)

pub rounds-repeat : (R : ℕ → ℕ → Type 0) (i j : ℕ) → Rounds R i j → (n : ℕ) × Repeats R n i j
rounds-repeat R i _ no_round = (zero, refl)
rounds-repeat R i _ (one_more k j rounds step) =
    let before = rounds-repeat R i k rounds in (suc before.0, repeats-more R before.0 i k j before.1 step)

pub repeats-rounds : (R : ℕ → ℕ → Type 0) (n i j : ℕ) → Repeats R n i j → Rounds R i j
repeats-rounds R zero i j h = subst (λ m. Rounds R i m) (sym h) no_round
repeats-rounds R (suc n) i j h =
    let last = repeats-less R n i j h in one_more last.0 j (repeats-rounds R n i last.0 last.1) last.2

pub rounds-map : (R S : ℕ → ℕ → Type 0) → ((i j : ℕ) → R i j → S i j) → (i j : ℕ) → Rounds R i j → Rounds S i j
rounds-map R S f i _ no_round = no_round
rounds-map R S f i _ (one_more k j rounds step) = one_more k j (rounds-map R S f i k rounds) (f k j step)
