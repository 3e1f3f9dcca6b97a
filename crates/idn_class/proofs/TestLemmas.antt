-- How a test that computes agrees with a rule: at each place, at a value that may be there, and under a condition.
use Rattle.std.proofs.Common.{◌≡◌, ℕ, zero, suc, ◌<◌, Bool, true, false, ◌==◌, Option, None, Some, IsSomeAnd, IsTrue, refl, sym, ap, ◌∙◌, inl, inr, arith}
use Rattle.std.proofs.lemmas.Bool.{and_parts, and_from, cases_Bool, cases_lt, eq-eqb, eqb-true, false_from_ne_true}
use Rattle.idn_class.specs.Tests.{all_places, is_some_and}

-- a test that is true exactly where a fact holds is any other such test
pub same_test : (a b : Bool) → (a ≡ true → b ≡ true) → (b ≡ true → a ≡ true) → a ≡ b
same_test true b there back = sym (there refl)
same_test false b there back = sym (false_from_ne_true b (λ h. let clash : false ≡ true = back h in cc))

pub all_places-from : (n : ℕ) (passes : ℕ → Bool) → ((k : ℕ) → k < n → passes k ≡ true) → all_places n passes ≡ true
all_places-from zero passes each = refl
all_places-from (suc n) passes each =
    and_from (passes n) (all_places n passes) (each n (omega arith)) (all_places-from n passes (λ k low. each k (omega arith)))

pub all_places-at : (n : ℕ) (passes : ℕ → Bool) → all_places n passes ≡ true → (k : ℕ) → k < n → passes k ≡ true
all_places-at zero passes all k low = absurd (omega arith)
all_places-at (suc n) passes all k low =
    let parts = and_parts (passes n) (all_places n passes) all in
    elim (cases_lt k n) [
      | inl before ↦ all_places-at n passes parts.1 k before
      | inr from ↦ let same : k ≡ n = omega arith in ap passes same ∙ parts.0
    ]

pub is_some_and-gives : (o : Option ℕ) (passes : ℕ → Bool) → is_some_and o passes ≡ true → IsSomeAnd o (λ c. IsTrue (passes c))
is_some_and-gives None passes h = let clash : false ≡ true = h in cc
is_some_and-gives (Some c) passes h = h

pub is_some_and-from : (o : Option ℕ) (passes : ℕ → Bool) → IsSomeAnd o (λ c. IsTrue (passes c)) → is_some_and o passes ≡ true
is_some_and-from None passes h = absurd h
is_some_and-from (Some c) passes h = h

-- a rule that is asked only under a condition
pub asked-gives : (condition : Bool) (passes : Bool → Bool) → passes condition ≡ true → condition ≡ true → passes true ≡ true
asked-gives condition passes h holds = ap passes (sym holds) ∙ h

pub asked-from : (condition : Bool) (passes : Bool → Bool) → passes false ≡ true → (condition ≡ true → passes true ≡ true) → passes condition ≡ true
asked-from condition passes unasked h =
    elim (cases_Bool condition) [ inl holds ↦ ap passes holds ∙ h holds | inr not_asked ↦ ap passes not_asked ∙ unasked ]

-- a rule of one code point
pub asked_at-gives : (c point : ℕ) (passes : Bool → Bool) → passes (c == point) ≡ true → c ≡ point → passes true ≡ true
asked_at-gives c point passes h same = asked-gives (c == point) passes h (eq-eqb c point same)

pub asked_at-from : (c point : ℕ) (passes : Bool → Bool) → passes false ≡ true → (c ≡ point → passes true ≡ true) → passes (c == point) ≡ true
asked_at-from c point passes unasked h = asked-from (c == point) passes unasked (λ same. h (eqb-true c point same))
